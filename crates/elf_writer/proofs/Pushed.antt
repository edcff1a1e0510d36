-- What is pushed is the written file.
use Rattle.std.proofs.Common.{◌≡◌, ℕ, ◌+◌, ◌-◌, ◌/◌, ◌%◌, ◌<◌, ◌≤◌, List, [], ◌++◌, ◌*◌, length, ap, sym, ◌∙◌, append_assoc, arith}
use Rattle.std.proofs.lemmas.List.Concat.{flat_map-append}
use Rattle.image.specs.declared.image.Segment.{Segment}
use Rattle.byte_lists.specs.LittleEndian.{zeros}
use Rattle.elf_writer.specs.Written.{elf_header, header_bytes, headers_for, stack_headers, program_headers, header_count, table_bytes, data_of, table_end, written}

-- the first page after n bytes
pub start_is : (n start : ℕ) → n ≤ start → start < n + 4096 → start % 4096 ≡ 0 → start ≡ 4096 * ((n + 4095) / 4096)
start_is n start low high even = omega arith

pub pushed_file : (ss rs : List Segment) (at count start : ℕ) (o0 o1 o2 o3 o4 o5 : List ℕ) → rs ≡ ss → count ≡ header_count (length rs) → start ≡ 4096 * ((52 + 32 * count + 4095) / 4096) → o0 ≡ [] → o1 ≡ o0 ++ elf_header at count → o2 ≡ o1 ++ table_bytes (headers_for start rs)
    → o3 ≡ o2 ++ table_bytes (stack_headers (length rs)) → o4 ≡ o3 ++ zeros (start - (52 + 32 * count)) → o5 ≡ o4 ++ data_of rs → o5 ≡ written ss at
unfolding written
pushed_file ss rs at count start o0 o1 o2 o3 o4 o5 same many from e0 e1 e2 e3 e4 e5 =
    let h : List ℕ = elf_header at count in
    let t : List ℕ = table_bytes (headers_for start rs) in
    let s : List ℕ = table_bytes (stack_headers (length rs)) in
    let z : List ℕ = zeros (start - (52 + 32 * count)) in
    let d : List ℕ = data_of rs in
    let table : h ++ t ++ s ≡ h ++ table_bytes (program_headers start rs) =
    append_assoc h t s ∙ ap (λ (o : List ℕ). h ++ o) (sym (flat_map-append header_bytes (headers_for start rs) (stack_headers (length rs)))) in
    e5 ∙ ap (λ (o : List ℕ). o ++ d) (e4 ∙ ap (λ (o : List ℕ). o ++ z) (e3 ∙ ap (λ (o : List ℕ). o ++ s) (e2 ∙ ap (λ (o : List ℕ). o ++ t) (e1 ∙ ap (λ (o : List ℕ). o ++ h) e0)) ∙ table))
    ∙ ap (λ (k : ℕ). elf_header at k ++ table_bytes (program_headers start rs) ++ zeros (start - (52 + 32 * k)) ++ d) many
    ∙ ap (λ (n : ℕ). elf_header at (header_count (length rs)) ++ table_bytes (program_headers n rs) ++ zeros (n - table_end (length rs)) ++ d) (from ∙ ap (λ (k : ℕ). 4096 * ((52 + 32 * k + 4095) / 4096)) many)
    ∙ ap (λ (qs : List Segment). written qs at) same
