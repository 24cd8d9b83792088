-- Where a guest stands, and what changing it there makes of the list.
use Rattle.std.proofs.Common.{zero, suc, ◌≡◌, ℕ, ◌<◌, ◌≤◌, ◌==◌, nat_lt, Bool, true, false, cond, List, [], ◌∷◌, length, get_or, set, refl, ap, sym, ◌∙◌, subst, arith, Option, Some, None, All, AllPairs, MatchOption}
use Rattle.std.specs.List.{find, position, position_or_len, slice_get}
use Rattle.std.proofs.lemmas.Bool.{eq-eqb, eqb-true, ne_eqb, ltb-true, ltb-false}
use Rattle.std.proofs.lemmas.List.Folds.{find_at}
use Rattle.std.proofs.lemmas.List.Quantifiers.{position-Some}
use Rattle.std.proofs.lemmas.Option.{slice_get-get_or}
use Rattle.guest_commands.specs.Mappings.{Mapping}
use Rattle.guest_commands.specs.Laws.{AreSeparate}
use Rattle.guest_table.specs.Tables.{changed, IsPlace}

abbrev has : ℕ → Mapping → Bool
has vmid guest = guest.vmid == vmid

-- ---- what `position` finds

abbrev IsFound : List Mapping → ℕ → Option ℕ → Type 0
IsFound guests vmid place = MatchOption place (find (has vmid) guests ≡ None) (IsPlace guests vmid)

past : (guests : List Mapping) (i : ℕ) → length guests ≤ i → slice_get guests i ≡ None
past [] i h = refl
past (guest ∷ guests) zero h = absurd (omega arith)
past (guest ∷ guests) (suc i) h = past guests i (omega arith)

found_by : (guests : List Mapping) (vmid : ℕ) (b : Bool) → nat_lt (position_or_len (has vmid) guests) (length guests) ≡ b
    → IsFound guests vmid (cond b (Some (position_or_len (has vmid) guests)) None)
found_by guests vmid true h =
    let at = position_or_len (has vmid) guests in
    let small = ltb-true (position_or_len (has vmid) guests) (length guests) h in
    record {
      in_range = small;
      vmid_there = λ d. eqb-true (get_or guests at d).vmid vmid (position-Some (has vmid) guests at d (ap (λ b. cond b (Some at) None) h)).1;
      found = λ d. find_at (has vmid) guests ∙ slice_get-get_or guests at d small;
    }
found_by guests vmid false h =
    find_at (has vmid) guests ∙ past guests (position_or_len (has vmid) guests) (ltb-false (position_or_len (has vmid) guests) (length guests) h)

pub placed : (guests : List Mapping) (vmid : ℕ) (place : Option ℕ) → place ≡ position (λ guest. guest.vmid == vmid) guests
    → MatchOption place (find (λ guest. guest.vmid == vmid) guests ≡ None) (IsPlace guests vmid)
placed guests vmid place e = subst (λ place. IsFound guests vmid place) (sym e) (found_by guests vmid (nat_lt (position_or_len (has vmid) guests) (length guests)) refl)

-- ---- a change there

unchanged : (f : Mapping → Mapping) (guests : List Mapping) (vmid : ℕ) → All (λ guest. has vmid guest ≡ false) guests → changed guests vmid f ≡ guests
unchanged f [] vmid h = refl
unchanged f (guest ∷ guests) vmid h =
    ap (λ b. cond b (f guest) guest ∷ changed guests vmid f) (h 0 guest (omega arith))
    ∙ ap (λ rest. guest ∷ rest) (unchanged f guests vmid (λ k d small. h (suc k) d (omega arith)))

pub change_at : (f : Mapping → Mapping) (guests : List Mapping) (vmid place : ℕ) (d : Mapping) → AllPairs AreSeparate guests → place < length guests
    → (get_or guests place d).vmid ≡ vmid → set guests place (f (get_or guests place d)) ≡ changed guests vmid f
change_at f [] vmid place d apart small same = absurd (omega arith)
change_at f (guest ∷ guests) vmid zero d apart small same =
    sym (ap (λ b. cond b (f guest) guest ∷ changed guests vmid f) (eq-eqb guest.vmid vmid same)
    ∙ ap (λ rest. f guest ∷ rest)
    (unchanged f guests vmid (λ k e less. ne_eqb (get_or guests k e).vmid vmid (λ there. (apart 0 (suc k) e (omega arith) (omega arith)).machines (same ∙ sym there)))))
change_at f (guest ∷ guests) vmid (suc place) d apart small same =
    ap (λ rest. guest ∷ rest) (change_at f guests vmid place d (λ i j e less most. apart (suc i) (suc j) e (omega arith) (omega arith)) (omega arith) same)
    ∙ sym (ap (λ b. cond b (f guest) guest ∷ changed guests vmid f) (ne_eqb guest.vmid vmid (λ here. (apart 0 (suc place) d (omega arith) small).machines (here ∙ sym same))))

-- ---- where the guest that was found stands

abbrev IsAt : List Mapping → ℕ → Mapping → ℕ → Type 0
IsAt guests vmid guest k = (k < length guests) × ((d : Mapping) → get_or guests k d ≡ guest) × (guest.vmid ≡ vmid)

found_in : (guest : Mapping) (guests : List Mapping) (vmid : ℕ) (sought : Mapping) (b : Bool) → has vmid guest ≡ b → cond b (Some guest) (find (has vmid) guests) ≡ Some sought
    → (find (has vmid) guests ≡ Some sought → (k : ℕ) × IsAt guests vmid sought k) → (k : ℕ) × IsAt (guest ∷ guests) vmid sought k
found_in guest guests vmid sought true here h rest =
    let same : guest ≡ sought = cc in
    (0, (omega arith, (λ d. same), subst (λ (g : Mapping). g.vmid ≡ vmid) same (eqb-true guest.vmid vmid here)))
found_in guest guests vmid sought false here h rest =
    let there = rest h in (suc there.0, (let small = there.1.0 in omega arith, there.1.1, there.1.2))

found : (guests : List Mapping) (vmid : ℕ) (sought : Mapping) → find (has vmid) guests ≡ Some sought → (k : ℕ) × IsAt guests vmid sought k
found [] vmid sought h = absurd cc
found (guest ∷ guests) vmid sought h = found_in guest guests vmid sought (has vmid guest) refl h (found guests vmid sought)

pub found_at : (guests : List Mapping) (vmid : ℕ) (sought : Mapping) → find (λ guest. guest.vmid == vmid) guests ≡ Some sought
    → (k : ℕ) × (k < length guests) × ((d : Mapping) → get_or guests k d ≡ sought) × (sought.vmid ≡ vmid)
found_at guests vmid sought h = let at = found guests vmid sought h in (at.0, at.1.0, at.1.1, at.1.2)
