-- What the calls of a rewriting tell together.
use Rattle.std.proofs.Common.{◌≡◌, ◌≤◌, ◌<◌, ℕ, true, false, List, length, Result, Ok, Err, Vec, subst, arith}
use Rattle.std.specs.declared.alloc.Global.{Global}
use Rattle.elf_image.specs.declared.refusal.Refusal.{Refusal}
use Rattle.rewrite_core.specs.Rewrites.{IsRefused, IsWritten}
use Rattle.sw_host.specs.declared.host.HostFault.{HostFault}
use Rattle.sw_host.specs.declared.host.HostFault.TheVariants.{Failed, Memory}
use Rattle.sw_host.specs.Told.{Told, HasCause, Rose}
use Rattle.sw_host.specs.Calls.{called, fails, with_file, Spoils, Loads, Stores}
use Rattle.sw_top.specs.declared.command.Names.{Names}
use Rattle.sw_top.proofs.LoadLemmas.{failed_load, longer_load, whole_load}
use Rattle.sw_top.specs.Rewriting.{limit, greatest_size, map_text, stored_out, IsInput, IsLoaded, PassesLimit, Finishes, Refuses, SpoilsOut, SpoilsMap, Fails, load_fails, out_fails, map_fails, WantsMemory, before_stores, in_out, in_map}

-- a count of faults never falls
pub has_cause : {T : Type 0} (before now : ℕ) (r : Result T HostFault) → HasCause before now r → before ≤ now
has_cause before now (Ok v) h = h
has_cause before now (Err Memory) h = h
has_cause before now (Err Failed) h = h.0

-- it rose in the whole where it rose in a part
pub rose_before : (a b c : ℕ) → a ≤ b → Rose b c → Rose a c
rose_before a b c h r = omega arith

pub rose_after : (a b c : ℕ) → Rose a b → b ≤ c → Rose a c
rose_after a b c r h = omega arith

module _ (names : Names) (a : Told) where
  pub load_failed : (b : Told) → Loads names.from limit (Err Failed) a b → Fails names a b
  load_failed b p = load_fails (failed_load greatest_size names.from a b p) p.0

  pub too_long : (v : Vec ℕ Global) (b : Told) → greatest_size < length v.items → Loads names.from limit (Ok v) a b → PassesLimit names a b
  too_long v b h p = record { overlong = longer_load greatest_size names.from a v b h p; after = p.0 }

  is_input : (v : Vec ℕ Global) (b : Told) → length v.items ≤ greatest_size → Loads names.from limit (Ok v) a b → IsInput names a v.items
  is_input v b h p = whole_load greatest_size names.from a v b h p

  pub refused : (v : Vec ℕ Global) (r : Refusal) (b : Told) → length v.items ≤ greatest_size → IsRefused v.items r → Loads names.from limit (Ok v) a b → Refuses names r a b
  refused v r b fits h p = record { file = v.items; is_input = is_input v b fits p; refused = h; after = p.0 }

  pub wants_memory : (b : Told) → b ≡ called a → WantsMemory names a b
  wants_memory b p = before_stores p

  -- a file was loaded and rewritten
  module _ (v : Vec ℕ Global) (out : List ℕ) (fits : length v.items ≤ greatest_size) (w : IsWritten v.items out) where
    is_loaded : (b : Told) → Loads names.from limit (Ok v) a b → IsLoaded names a out
    is_loaded b p = record { file = v.items; is_input = is_input v b fits p; written = w }

    spoils_out : (b c : Told) → Loads names.from limit (Ok v) a b → Spoils names.to (called b) c → SpoilsOut names a c
    spoils_out b c p q = record { out = out; is_loaded = is_loaded b p; after = subst (λ t. Spoils names.to (called t) c) p.0 q }

    pub out_failed : (b c : Told) → Loads names.from limit (Ok v) a b → Stores names.to out (Err Failed) b c → Fails names a c
    out_failed b c p q = out_fails (spoils_out b c p q.0) (subst (λ t. fails (called t) ≡ true) p.0 q.1)

    pub out_wants : (b c : Told) → Loads names.from limit (Ok v) a b → Stores names.to out (Err Memory) b c → WantsMemory names a c
    out_wants b c p q = in_out (spoils_out b c p q)

    stored : (b c : Told) → Loads names.from limit (Ok v) a b → Stores names.to out (Ok tt) b c → c ≡ stored_out names out a
    stored b c p q = subst (λ t. c ≡ with_file (called t) names.to out) p.0 q.0

    out_ok : (b c : Told) → Loads names.from limit (Ok v) a b → Stores names.to out (Ok tt) b c → fails (called (called a)) ≡ false
    out_ok b c p q = subst (λ t. fails (called t) ≡ false) p.0 q.1

    spoils_map : (b c d : Told) → Loads names.from limit (Ok v) a b → Stores names.to out (Ok tt) b c → Spoils names.map (called c) d → SpoilsMap names a d
    spoils_map b c d p q r =
        record { out = out; is_loaded = is_loaded b p; first_store = out_ok b c p q; after = subst (λ t. Spoils names.map (called t) d) (stored b c p q) r }

    pub map_failed : (b c d : Told) → Loads names.from limit (Ok v) a b → Stores names.to out (Ok tt) b c → Stores names.map map_text (Err Failed) c d → Fails names a d
    unfolding spoils_map
    map_failed b c d p q r = map_fails (spoils_map b c d p q r.0) (subst (λ t. fails (called t) ≡ true) (stored b c p q) r.1)

    pub map_wants : (b c d : Told) → Loads names.from limit (Ok v) a b → Stores names.to out (Ok tt) b c → Stores names.map map_text (Err Memory) c d → WantsMemory names a d
    map_wants b c d p q r = in_map (spoils_map b c d p q r)

    pub finished : (b c d : Told) → Loads names.from limit (Ok v) a b → Stores names.to out (Ok tt) b c → Stores names.map map_text (Ok tt) c d → Finishes names a d
    finished b c d p q r =
        let at = stored b c p q in
        record { out = out; is_loaded = is_loaded b p; first_store = out_ok b c p q; second_store = subst (λ t. fails (called t) ≡ false) at r.1; after = subst (λ t. d ≡ with_file (called t) names.map map_text) at r.0 }
