-- The block of an ATC_INV, as a region tells it, is met by the blocks that the command covers.
use Rattle.std.proofs.Common.{◌≡◌, ℕ, ◌+◌, ◌*◌, ◌/◌, ◌^◌, ◌<◌, ◌==◌, ◌&&◌, Bool, true, false, inl, inr, Option, Some, None, refl, ap, ◌∙◌, arith}
use Rattle.std.proofs.Math.Nat.{div-eq_of_lt}
use Rattle.std.proofs.lemmas.Nat.{pow_pos}
use Rattle.std.proofs.lemmas.Bool.{cases_Bool, eqb-true, lt-ltb, and_from}
use Rattle.cmdcodec.specs.declared.command.Command.TheVariants.{AtcInv}
use Rattle.cmdcodec.specs.declared.command.Command.{Command}
use Rattle.regions.specs.declared.accesses.Accesses.{Accesses}
use Rattle.regions.specs.declared.region.Region.{Region}
use Rattle.caches.specs.declared.tag.Tag.TheVariants.{Ste, Cd, S1, S2, El2, Atc}
use Rattle.caches.specs.Blocks.{aligned, block, meets}
use Rattle.caches.specs.Covers.{is_for}
use Rattle.regions.specs.declared.region.Region.TheVariants.{Endpoint}
use Rattle.regions.specs.CommandRegions.{accesses_of, pages_of_block}
use Rattle.regions.specs.Regions.{has_access, has_pages_of, HoldsWhatIsCovered}

all_met : (page p n : ℕ) → page < 2 ^ 52 → p < 2 ^ 52 → meets (block p n) (aligned page (2 ^ 52)) ≡ true
all_met page p n h k =
    let zero : page / 2 ^ 52 ≡ 0 = div-eq_of_lt h in
    let first : page / 2 ^ 52 * 2 ^ 52 ≡ 0 = ap (λ q. q * 2 ^ 52) zero ∙ omega arith in
    let some = pow_pos n in
    and_from _ _ (lt-ltb p (page / 2 ^ 52 * 2 ^ 52 + 2 ^ 52) (omega (arith, first, k))) (lt-ltb (page / 2 ^ 52 * 2 ^ 52) (p + 2 ^ n) (omega (arith, first, some)))

met : (page size p n : ℕ) → page < 2 ^ 52 → p < 2 ^ 52 → meets (block p n) (aligned page (2 ^ size)) ≡ has_pages_of (pages_of_block page size) (block p n)
met page size p n inside below =
    elim (cases_Bool (size == 52)) [
      | inl is ↦ let all : size ≡ 52 = eqb-true size 52 is in
          rw is (ap (λ s. meets (block p n) (aligned page (2 ^ s))) all ∙ all_met page p n inside below)
      | inr isnt ↦ rw isnt refl
    ]

accessed : (ssv : Bool) (ssid : ℕ) (global : Bool) (substream : Option ℕ) → is_for ssv ssid global substream ≡ has_access (accesses_of ssv ssid global) substream
accessed false ssid global substream = refl
accessed true ssid false None = refl
accessed true ssid false (Some s) = refl
accessed true ssid true None = refl
accessed true ssid true (Some s) = refl

endpoint_covered : (sid : ℕ) (ssv : Bool) (ssid : ℕ) (global : Bool) (size page : ℕ) → page < 2 ^ 52
    → HoldsWhatIsCovered (AtcInv sid ssv ssid global size page) (Endpoint sid (accesses_of ssv ssid global) (pages_of_block page size))
endpoint_covered sid ssv ssid global size page inside (Ste s) range = refl
endpoint_covered sid ssv ssid global size page inside (Cd s c) range = refl
endpoint_covered sid ssv ssid global size page inside (S1 v o p n) range = refl
endpoint_covered sid ssv ssid global size page inside (S2 v p n) range = refl
endpoint_covered sid ssv ssid global size page inside (El2 o p n) range = refl
endpoint_covered sid ssv ssid global size page inside (Atc s c p n) range =
    ap (λ b. (s == sid) && (b && meets (block p n) (aligned page (2 ^ size)))) (accessed ssv ssid global c)
    ∙ ap (λ b. (s == sid) && (has_access (accesses_of ssv ssid global) c && b)) (met page size p n inside range)

pub atc_inv_covered : (command : Command) (region : Region) (accesses : Accesses) (sid : ℕ) (ssv : Bool) (ssid : ℕ) (global : Bool) (size page : ℕ)
    → command ≡ AtcInv sid ssv ssid global size page → accesses ≡ accesses_of ssv ssid global → region ≡ Endpoint sid accesses (pages_of_block page size) → page < 2 ^ 52
    → HoldsWhatIsCovered command region
atc_inv_covered command region accesses sid ssv ssid global size page is by told inside tag range =
    let covered = endpoint_covered sid ssv ssid global size page inside tag range in cc
