-- Which answer comes: what was loaded, and how it was judged, leaves no other.
use Rattle.std.proofs.Common.{◌≡◌, inl, inr, ℕ, List, Option, Some, None, Ok, refl, sym, ap, ◌∙◌, subst}
use Rattle.elf_image.specs.declared.refusal.Refusal.{Refusal}
use Rattle.image.specs.declared.room.Room.TheVariants.{Source}
use Rattle.image.specs.declared.image.Image.{Image}
use Rattle.elf_image.specs.Refusals.{refusal_of}
use Rattle.elf_image.specs.Image.{image_of, image_if}
use Rattle.elf_image.specs.Plain.{PlainIsAccepted}
use Rattle.rewrite_core.specs.Met.{IsRewritable}
use Rattle.rewrite_core.specs.Rewrites.{IsWritten, IsRefused, by_image, not_yet}
use Rattle.sw_host.specs.Told.{Told}
use Rattle.sw_host.specs.Calls.{called, fails, with_file}
use Rattle.sw_host.specs.Laws.{FailsAlike}
use Rattle.sw_top.specs.declared.command.Names.{Names}
use Rattle.sw_top.specs.declared.end.End.{End}
use Rattle.sw_top.specs.declared.end.End.TheVariants.{Done, Ran, Usage, TooLong, Refused, Host, Memory}
use Rattle.sw_top.specs.Rewriting.{input, greatest_size, stored_out, IsInput, IsOverlong, IsLoaded, Fails, load_fails, out_fails, map_fails, PerformsRewrite}
use Rattle.sw_top.proofs.LoadLemmas.{whole_has, longer_has, has_whole, has_longer, one_whole, not_none, longer_not_none, not_longer}
use Rattle.sw_top.specs.RewriteOutcome.{IsGiven, IsOrMemory, BothStore, OneStoreFails, AnswersRewrite}

no_refusal : (file : List ℕ) (o : Option Refusal) (image : Image) → image_if file o ≡ Ok image → o ≡ None
no_refusal file None image e = refl
no_refusal file (Some r) image e = cc

accepted : (file : List ℕ) (image : Image) → image_of file Source ≡ Ok image → refusal_of file Source ≡ None
unfolding image_of
accepted file image e = no_refusal file (refusal_of file Source) image e

-- what is rewritten is accepted
rewritable_is_accepted : PlainIsAccepted → (file : List ℕ) → IsRewritable file → refusal_of file Source ≡ None
rewritable_is_accepted law file t = accepted file _ (law file Source t.magic t.plain)

-- an accepted file that is rewritable isn't refused
not_refused : (file : List ℕ) (r : Refusal) → refusal_of file Source ≡ None → IsRewritable file → IsRefused file r → ⊥
not_refused file r none t (by_image e) = cc
not_refused file r none t (not_yet is e unfit) = unfit t

written_is_not_refused : (file out : List ℕ) (r : Refusal) → IsWritten file out → IsRefused file r → ⊥
written_is_not_refused file out r w h = not_refused file r (accepted file _ w.read) w.rewritable h

-- a file has one refusal
one_refusal : (file : List ℕ) (r q : Refusal) → IsRefused file r → IsRefused file q → q ≡ r
one_refusal file r q (by_image e) (by_image f) = cc
one_refusal file r q (by_image e) (not_yet is f unfit) = cc
one_refusal file r q (not_yet is e unfit) (by_image f) = cc
one_refusal file r q (not_yet is e unfit) (not_yet was f misfit) = cc

-- the store of MAP comes after that of OUT, and its number says whether it is to fail
third : FailsAlike → (names : Names) (out : List ℕ) (a : Told) → fails (called (stored_out names out a)) ≡ fails (called (called (called a)))
unfolding with_file
third alike names out a = alike (called (called a)) (stored_out names out a) refl refl

-- what a rewriting found, by its answer
data Found (names : Names) (a : Told) (end : End) : Type 0 where
  is_done : end ≡ Done → (out : List ℕ) → IsLoaded names a out → BothStore a → Found names a end
  is_long : end ≡ TooLong → IsOverlong names a → Found names a end
  is_refused : (file : List ℕ) (r : Refusal) → end ≡ Refused r → IsInput names a file → IsRefused file r → Found names a end
  is_unloaded : end ≡ Host → input names a ≡ None → Found names a end
  is_unstored : end ≡ Host → (out : List ℕ) → IsLoaded names a out → OneStoreFails a → Found names a end
  is_wanting : end ≡ Memory → Found names a end

of_fault : FailsAlike → (names : Names) (a b : Told) → Fails names a b → Found names a Host
of_fault alike names a b (load_fails e after) = is_unloaded refl e
of_fault alike names a b (out_fails s e) = is_unstored refl s.out s.is_loaded (inl e)
of_fault alike names a b (map_fails s e) = is_unstored refl s.out s.is_loaded (inr (sym (third alike names s.out a) ∙ e))

found : FailsAlike → (names : Names) (end : End) (a b : Told) → PerformsRewrite names end a b → Found names a end
found alike names Done a b f =
    is_done refl f.out f.is_loaded (record { out = f.first_store; map = sym (third alike names f.out a) ∙ f.second_store })
found alike names (Ran e) a b p = absurd p
found alike names Usage a b p = absurd p
found alike names TooLong a b p = is_long refl p.overlong
found alike names (Refused r) a b p = is_refused p.file r refl p.is_input p.refused
found alike names Host a b p = of_fault alike names a b p
found alike names Memory a b p = is_wanting refl

not_each : (a : Told) → BothStore a → OneStoreFails a → ⊥
not_each a both (inl e) = let z = both.out in cc
not_each a both (inr e) = let z = both.map in cc

module _ (names : Names) (a : Told) (end : End) where
  no_file : ((file : List ℕ) → IsGiven names a file → ⊥) → Found names a end → IsOrMemory Host end
  no_file none (is_done is out l both) = absurd (none l.file (whole_has greatest_size names.from a l.file l.is_input))
  no_file none (is_long is o) = absurd (none o.file (longer_has greatest_size names.from a o))
  no_file none (is_refused file r is p h) = absurd (none file (whole_has greatest_size names.from a file p))
  no_file none (is_unloaded is e) = inl is
  no_file none (is_unstored is out l one) = inl is
  no_file none (is_wanting is) = inr is

  too_long : IsOverlong names a → Found names a end → IsOrMemory TooLong end
  too_long o (is_done is out l both) = absurd (not_longer greatest_size names.from a l.file l.is_input o)
  too_long o (is_long is p) = inl is
  too_long o (is_refused file r is p h) = absurd (not_longer greatest_size names.from a file p o)
  too_long o (is_unloaded is none) = absurd (longer_not_none greatest_size names.from a o none)
  too_long o (is_unstored is out l one) = absurd (not_longer greatest_size names.from a l.file l.is_input o)
  too_long o (is_wanting is) = inr is

  module _ (file : List ℕ) (p : IsInput names a file) where
    written_here : (out : List ℕ) → (l : IsLoaded names a out) → IsWritten file out
    written_here out l = subst (λ f. IsWritten f out) (one_whole greatest_size names.from a file l.file p l.is_input) l.written

    refused_here : (other : List ℕ) (q : Refusal) → IsInput names a other → IsRefused other q → IsRefused file q
    refused_here other q i h = subst (λ f. IsRefused f q) (one_whole greatest_size names.from a file other p i) h

    refused : (r : Refusal) → IsRefused file r → Found names a end → IsOrMemory (Refused r) end
    refused r h (is_done is out l both) = absurd (written_is_not_refused file out r (written_here out l) h)
    refused r h (is_long is o) = absurd (not_longer greatest_size names.from a file p o)
    refused r h (is_refused other q is i g) = inl (is ∙ ap Refused (one_refusal file r q h (refused_here other q i g)))
    refused r h (is_unloaded is none) = absurd (not_none greatest_size names.from a file p none)
    refused r h (is_unstored is out l one) = absurd (written_is_not_refused file out r (written_here out l) h)
    refused r h (is_wanting is) = inr is

    not_refused_here : PlainIsAccepted → IsRewritable file → (other : List ℕ) (q : Refusal) → IsInput names a other → IsRefused other q → ⊥
    not_refused_here law t other q i g = not_refused file q (rewritable_is_accepted law file t) t (refused_here other q i g)

    done : PlainIsAccepted → IsRewritable file → (end ≡ Host → OneStoreFails a → ⊥) → Found names a end → IsOrMemory Done end
    done law t never (is_done is out l both) = inl is
    done law t never (is_long is o) = absurd (not_longer greatest_size names.from a file p o)
    done law t never (is_refused other q is i g) = absurd (not_refused_here law t other q i g)
    done law t never (is_unloaded is none) = absurd (not_none greatest_size names.from a file p none)
    done law t never (is_unstored is out l one) = absurd (never is one)
    done law t never (is_wanting is) = inr is

    host : PlainIsAccepted → IsRewritable file → OneStoreFails a → Found names a end → IsOrMemory Host end
    host law t fault (is_done is out l both) = absurd (not_each a both fault)
    host law t fault (is_long is o) = absurd (not_longer greatest_size names.from a file p o)
    host law t fault (is_refused other q is i g) = absurd (not_refused_here law t other q i g)
    host law t fault (is_unloaded is none) = inl is
    host law t fault (is_unstored is out l one) = inl is
    host law t fault (is_wanting is) = inr is

pub answers : PlainIsAccepted → FailsAlike → (names : Names) (end : End) (rose : Type 0) (a b : Told) → (end ≡ Host → rose) → PerformsRewrite names end a b → AnswersRewrite names end rose a
answers law alike names end rose a b cause s =
    let f = found alike names end a b s in
    record {
      no_file = λ none. no_file names a end none f;
      file = λ file g. record {
        too_long = λ over. too_long names a end (has_longer greatest_size names.from a file g over) f;
        refused = λ fits r h. refused names a end file (has_whole greatest_size names.from a file g fits) r h f;
        done = λ fits t both. done names a end file (has_whole greatest_size names.from a file g fits) law t (λ e one. not_each a both one) f;
        no_fault = λ fits t still. done names a end file (has_whole greatest_size names.from a file g fits) law t (λ e one. still (cause e)) f;
        host = λ fits t one. host names a end file (has_whole greatest_size names.from a file g fits) law t one f;
      };
    }
