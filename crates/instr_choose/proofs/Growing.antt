-- The lists of one more operation, and of one more block.
use Rattle.std.proofs.Common.{◌≡◌, ℕ, ◌+◌, ◌<◌, List, [], ◌∷◌, ◌++◌, take, get_or, length, refl, sym, ap, ◌∙◌, subst, append_assoc, All}
use Rattle.std.proofs.lemmas.List.{append-nil, take_more, map_more}
use Rattle.std.proofs.lemmas.List.Elements.{All-push}
use Rattle.flag_ir.specs.declared.operation.Op.{Op}
use Rattle.flag_ir.specs.declared.block.Block.{Block}
use Rattle.named_code.specs.declared.named.VInstr.{VInstr}
use Rattle.named_code.specs.declared.named.VBlock.{VBlock}
use Rattle.instr_choose.specs.Lists.{choose_op, choose_ops}
use Rattle.instr_choose.specs.Blocks.{choose_block, choose_blocks}

pub choose_ops_none : choose_ops [] ≡ []
unfolding choose_ops
choose_ops_none = refl

choose_ops_last : (xs : List Op) (x : Op) → choose_ops (xs ++ x ∷ []) ≡ choose_ops xs ++ choose_op x
unfolding choose_ops
choose_ops_last [] x = append-nil (choose_op x)
choose_ops_last (y ∷ xs) x = ap (λ zs. choose_op y ++ zs) (choose_ops_last xs x) ∙ sym (append_assoc (choose_op y) (choose_ops xs) (choose_op x))

pub choose_ops_more : (ops : List Op) (i : ℕ) (d : Op) (xs ys : List VInstr) → i < length ops → xs ≡ choose_ops (take i ops) → ys ≡ xs ++ choose_op (get_or ops i d) → ys ≡ choose_ops (take (i + 1) ops)
choose_ops_more ops i d xs ys low h e = e ∙ ap (λ zs. zs ++ choose_op (get_or ops i d)) h ∙ sym (choose_ops_last (take i ops) (get_or ops i d)) ∙ ap choose_ops (sym (take_more ops i d low))

pub choose_blocks_more : (blocks : List Block) (i : ℕ) (d : Block) (xs ys : List VBlock) (b : VBlock) → i < length blocks → xs ≡ choose_blocks (take i blocks) → b ≡ choose_block (get_or blocks i d) → ys ≡ xs ++ b ∷ [] → ys ≡ choose_blocks (take (i + 1) blocks)
choose_blocks_more blocks i d xs ys b low h is e = e ∙ ap (λ zs. zs ++ b ∷ []) h ∙ ap (λ z. choose_blocks (take i blocks) ++ z ∷ []) is ∙ sym (map_more choose_block blocks i d low)

-- what holds of one more element
pub all_more : {A : Type 0} (P : A → Type 0) (xs : List A) (i : ℕ) (d : A) → i < length xs → All P (take i xs) → P (get_or xs i d) → All P (take (i + 1) xs)
all_more P xs i d low h k = subst (All P) (sym (take_more xs i d low)) (All-push P (take i xs) (get_or xs i d) h k)
