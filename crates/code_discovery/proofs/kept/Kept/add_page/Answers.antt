use Rattle.std.proofs.Common.{◌<◌, refl, sym, subst}
use Rattle.code_discovery.proofs.StoredWords.{far_page_kept}
use Rattle.code_discovery.proofs.kept.Kept.add_page.Goals as goal

pub returns-then-has_none-clause-kept : goal.returns-then-has_none-clause-kept
returns-then-has_none-clause-kept c =
    far_page_kept c.args.scan.now c.args.self.now c.args.span c.args.page c.bytes_from-bytes.result.now c.requires.span c.bytes_from-bytes.ensures.sized c.bytes_from-bytes.ensures.words
    (λ i low. c.if-has_none.ensures refl i (subst (λ n. i < n) (sym c.min.ensures) low))
