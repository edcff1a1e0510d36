use Rattle.std.proofs.Common.{◌≡◌, ◌∙◌, Some, true, false, ap, subst, arith}
use Rattle.std.specs.Option.{option_map}
use Rattle.std.specs.Fmt.{DisplaysOnOk, digits, padded_integral, radix_prefix, shown_prefix, styled_digits_output}
use Rattle.std.proofs.lemmas.Fmt.{hex_byte}
use Rattle.code_listing.specs.Digits.{byte_text}
use Rattle.code_listing.proofs.hex_text.ByteTextDisplay.fmt.Goals as goal

pub returns-clause-writes : goal.returns-clause-writes
returns-clause-writes g c = λ plain ok.
    let text : styled_digits_output c.in_radix.result c.laid_out.result ≡ Some (byte_text c.args.self.now.0) =
    ap (option_map (padded_integral c.laid_out.result false (shown_prefix c.laid_out.result (radix_prefix c.in_radix.result.base)))) c.in_radix.ensures
    ∙ ap (λ s. Some (padded_integral s false (shown_prefix s (radix_prefix c.in_radix.result.base)) (digits 16 true c.args.self.now.0))) c.laid_out.ensures
    ∙ ap Some (hex_byte true c.args.self.now.0 (omega arith)) in
    subst (λ o. DisplaysOnOk g.W.Write.write_str_gives c.args.f.now c.write.result o c.write.new.self) text c.write.ensures.writes plain ok
