-- What stands at the new places of a page.
use Rattle.std.proofs.Common.{◌≡◌, ℕ, ◌+◌, ◌-◌, ◌*◌, ◌/◌, ◌%◌, ◌^◌, ◌<◌, ◌≤◌, List, [], ◌∷◌, ◌++◌, length, take, drop, replicate, min, All, Some, None, refl, sym, ap, ◌∙◌, inl, arith, append_assoc, length-drop, length-take}
use Rattle.std.proofs.lemmas.List.{take-append-drop, length-take-le}
use Rattle.std.proofs.lemmas.List.Elements.{All-drop}
use Rattle.x86_types.specs.declared.instr.Instr.{Instr}
use Rattle.x86_types.specs.declared.instr.Instr.TheVariants.{Jmp, Int80}
use Rattle.byte_lists.specs.LittleEndian.{word_bytes, from_le}
use Rattle.x86_grammar.specs.Front.{front}
use Rattle.x86_code.specs.Code.{code_of}
use Rattle.rewrite_core.specs.declared.places.Judgement.{Judgement}
use Rattle.rewrite_core.specs.Met.{mov_word}
use Rattle.rewrite_core.specs.Places.{stop, judged_at, IsJump, JumpsTo, StandsFor, IsLaid}
use Rattle.rewrite_core.specs.Layout.{code_start, whole_pages, in_pages, new_image}
use Rattle.rewrite_core.proofs.Fronts.{Stood, by_none, by_mov, by_call, by_jump, by_first, by_constant, stood_as}
use Rattle.rewrite_core.proofs.BesideStates.{LawsBelow}
use Rattle.rewrite_core.proofs.CodeLemmas.{left_in_pages, new_code_in_pages}
use Rattle.rewrite_core.proofs.MetPlaces.{stands_for}

-- ---- bytes at a place
-- so many bytes that are there are within the list
there_within : (bs own : List ℕ) (q n : ℕ) → take n (drop q bs) ≡ own → 1 ≤ length own → q + length own ≤ length bs
there_within bs own q n e some =
    let size : min n (length (drop q bs)) ≡ length own = sym (length-take n (drop q bs)) ∙ ap length e in
    omega (arith, size, some, length-drop q bs)

-- a jump by this much leads to the new place
pub jump_by : ℕ → ℕ → ℕ
jump_by q to = (to + 4294967296 - (q + 5)) % 4294967296

module _ (laws : LawsBelow) (page code : List ℕ) (bytes : All (λ b. b < 256) page) where
  -- the zeros after the code, up to the end of its last page
  abbrev zeros_after : List ℕ
  zeros_after = replicate (whole_pages (length code) - length code) 0

  stands_there : (q : ℕ) → q ≤ length code → code_of (new_image page code) (code_start + q) ≡ front (drop q code ++ zeros_after)
  unfolding code_of
  stands_there q h =
      ap front (new_code_in_pages page code 15 q (omega arith))
      ∙ laws.spelling.fifteen (drop q (in_pages code))
      ∙ ap front (left_in_pages code q h)

  begins_there : (q n : ℕ) (own : List ℕ) → take n (drop q code) ≡ own → 1 ≤ length own → code_of (new_image page code) (code_start + q) ≡ front (own ++ (drop n (drop q code) ++ zeros_after))
  begins_there q n own e some =
      let within = there_within code own q n e some in
      let split : drop q code ≡ own ++ drop n (drop q code) = sym (take-append-drop n (drop q code)) ∙ ap (λ (x : List ℕ). x ++ drop n (drop q code)) e in
      stands_there q (omega (arith, within))
      ∙ ap (λ (x : List ℕ). front (x ++ zeros_after)) split
      ∙ ap front (append_assoc own (drop n (drop q code)) zeros_after)

  -- a stop
  pub new_stop : (q : ℕ) → take 2 (drop q code) ≡ stop → code_of (new_image page code) (code_start + q) ≡ None
  new_stop q e = begins_there q 2 stop e (omega arith) ∙ laws.equations.ud2 (drop 2 (drop q code) ++ zeros_after)

  -- a jump
  jump_small : (q to : ℕ) → jump_by q to < 2 ^ 32
  unfolding jump_by
  jump_small q to = omega arith

  word_again : (n : ℕ) → n < 2 ^ 32 → n % 256 + 256 * (n / 256 % 256) + 65536 * (n / 65536 % 256) + 16777216 * (n / 16777216 % 256) ≡ n
  word_again n h = omega arith

  pub new_jump : (q to : ℕ) → IsJump code q to → code_of (new_image page code) (code_start + q) ≡ Some (Jmp (jump_by q to), 5)
  unfolding jump_by
  new_jump q to e =
      let n : ℕ = jump_by q to in
      let own : List ℕ = 0xE9 ∷ word_bytes n in
      let number : from_le 4 (word_bytes n) ≡ n = laws.numbers.word_from_is (n % 256) (n / 256 % 256) (n / 65536 % 256) (n / 16777216 % 256) [] ∙ word_again n (jump_small q to) in
      begins_there q 5 own e (omega arith) ∙ laws.equations.jmp_near (n % 256) (n / 256 % 256) (n / 65536 % 256) (n / 16777216 % 256) (drop 5 (drop q code) ++ zeros_after) ∙ ap (λ (k : ℕ). Some (Jmp k, 5)) number

  -- the bytes of an instruction
  bytes_at : (p : ℕ) → All (λ b. b < 256) (drop p page)
  bytes_at p = All-drop (λ b. b < 256) p page bytes

  pub own_length : (p : ℕ) (i : Instr) (len : ℕ) → front (drop p page) ≡ Some (i, len) → (length (take len (drop p page)) ≡ len) × (1 ≤ len)
  own_length p i len e =
      let some = laws.spelling.some (drop p page) i len (bytes_at p) e in
      (length-take-le len (drop p page) (laws.spelling.there (drop p page) i len e), omega (arith, some))

  pub new_same : (p q : ℕ) (i : Instr) (len : ℕ) → front (drop p page) ≡ Some (i, len) → take len (drop q code) ≡ take len (drop p page) → code_of (new_image page code) (code_start + q) ≡ Some (i, len)
  new_same p q i len e same =
      let own : List ℕ = take len (drop p page) in
      let size = own_length p i len e in
      let spelled = (laws.spelling.exact (drop p page) (bytes_at p) i len).0 e in
      begins_there q len own same (omega (arith, size.0, size.1))
      ∙ laws.spelling.found own (drop len (drop q code) ++ zeros_after) i spelled.spells
      ∙ ap (λ (k : ℕ). Some (i, k)) size.0

  -- ---- where they stand
  pub same_within : (p q : ℕ) (i : Instr) (len : ℕ) → front (drop p page) ≡ Some (i, len) → take len (drop q code) ≡ take len (drop p page) → q + len ≤ length code
  same_within p q i len e same =
      let size = own_length p i len e in
      let within = there_within code (take len (drop p page)) q len same (omega (arith, size.0, size.1)) in
      omega (arith, within, size.0)

  pub jump_within : (q to : ℕ) → IsJump code q to → q + 5 ≤ length code
  jump_within q to e = there_within code (0xE9 ∷ word_bytes (jump_by q to)) q 5 (unfold jump_by in e) (omega arith)

  stop_within : (q : ℕ) → take 2 (drop q code) ≡ stop → q + 2 ≤ length code
  stop_within q e = there_within code stop q 2 e (omega arith)

  module _ (laid : IsLaid page code) where
    for_within : (p q : ℕ) (j : Judgement) → Stood p (drop p page) j → StandsFor page code laid.table p q j → q < length code
    for_within p q _ (by_none e) h = omega (arith, stop_within q h)
    for_within p q _ (by_mov to from len e k) h = let size = own_length p (mov_word to from) len e in omega (arith, same_within p q (mov_word to from) len e h.0, size.1)
    for_within p q _ (by_call len e) h = let size = own_length p Int80 len e in omega (arith, same_within p q Int80 len e h.0, size.1)
    for_within p q _ (by_jump by len e) h = let j : JumpsTo code laid.table q _ = h in omega (arith, jump_within q j.to j.jump)
    for_within p q _ (by_first b e k) h = absurd h
    for_within p q _ (by_constant to from len e k) h = absurd h

    -- a new place is one of the code
    pub new_within : (p q : ℕ) → laid.table p ≡ Some q → q < length code
    new_within p q at = for_within p q (judged_at page p) (stood_as laws.equations p (drop p page) (judged_at page p) refl) (stands_for page code laid p q (judged_at page p) at refl)

-- where a jump at a new place leads
pub jump_leads : (a q to : ℕ) → a ≡ code_start + q → q + 5 ≤ 65536 → to ≤ 65536 → (a + 5 + jump_by q to) % 4294967296 ≡ code_start + to
unfolding jump_by
jump_leads a q to e h k = omega arith
