-- Fills, evictions and commands keep entries settled.
use Rattle.std.proofs.Common.{◌≡◌, ◌<◌, ℕ, zero, suc, List, [], ◌∷◌, ◌++◌, length, length-append, Option, Some, None, Bool, true, false, cond, refl, sym, ap, subst, ◌∙◌, ⊎_elim, inl, inr, ◌⊎◌, arith, append-nil}
use Rattle.std.specs.Prelude.{slice_get, not}
use Rattle.std.specs.Ordering.{eq_by_cmp}
use Rattle.std.specs.FinMap as finite
use Rattle.std.specs.FinMap.{get-empty, get-insert, get-remove, get-retain_keys}
use Rattle.std.proofs.lemmas.Option.{slice_get_within}
use Rattle.std.proofs.lemmas.Map.Views.{tells_apart}
use Rattle.cmdcodec.specs.declared.raw.Raw.{Raw}
use Rattle.cmdcodec.specs.declared.command.Command.{Command}
use Rattle.cmdcodec.specs.Spelling.{Spells}
use Rattle.ringcore.specs.declared.world.event.Outcome.{Outcome}
use Rattle.ringcore.specs.declared.world.event.Outcome.TheVariants.{Applied, Replaced}
use Rattle.ringcore.specs.world.World.{Taken}
use Rattle.caches.specs.declared.tag.Tag.{Tag}
use Rattle.caches.specs.declared.tag.Entry.{Entry}
use Rattle.caches.specs.Covers.{covers}
use Rattle.caches.specs.Held.{Entries, without_covered, without_passing}
use Rattle.caches.specs.TagOrder.{tag_cmp, tag_cmp_total, tag_cmp_exact}
use Rattle.engine.specs.Settled.{HasCovered, IsSettledEntry, IsSettled}

pub settled_empty : IsSettled finite.empty []
settled_empty tag entry is = let none = get-empty {X = Entry} tag_cmp tag in absurd (cc)

same_entry : (a b : Entry) → Some a ≡ Some b → a ≡ b
same_entry a b e = cc

-- what a map has with one key changed
at_changed : (b : Bool) (w old : Option Entry) (e : Entry) → cond b w old ≡ Some e → ((b ≡ true) × (w ≡ Some e)) ⊎ (old ≡ Some e)
at_changed true w old e is = inl (refl, is)
at_changed false w old e is = inr is

pub settled_evict : (entries : Entries) (taken : List Taken) (tag : Tag) → IsSettled entries taken → IsSettled (finite.remove entries tag) taken
settled_evict entries taken tag s u e is =
    ⊎_elim
    (λ (own : (eq_by_cmp tag_cmp u tag ≡ true) × (None ≡ Some e)). let no = own.1 in absurd (cc))
    (λ (old : finite.get entries u ≡ Some e). s u e old)
    (at_changed (eq_by_cmp tag_cmp u tag) None (finite.get entries u) e (sym (get-remove tag_cmp_total entries tag u) ∙ is))

-- what a map has under a key that may have been taken out
at_kept : (b : Bool) (old : Option Entry) (e : Entry) → cond (not b) old None ≡ Some e → old ≡ Some e
at_kept true old e is = absurd (cc)
at_kept false old e is = is

pub settled_without : (entries : Entries) (taken : List Taken) (p : Tag → Bool) → IsSettled entries taken → IsSettled (without_passing p entries) taken
settled_without entries taken p s u e is =
    s u e (at_kept (p u) (finite.get entries u) e (sym (get-retain_keys entries (λ t. not (p t)) u (λ x e. ap (λ y. not (p y)) (sym (tag_cmp_exact u x e)))) ∙ is))

-- No command of the list came after an entry that was filled at its end.
settled_new : (taken : List Taken) (tag : Tag) (entry : Entry) → entry.born ≡ length taken → IsSettledEntry taken tag entry
settled_new taken tag entry born = record {
  born = omega (arith, born);
  uncovered = λ place t at later covered. let low : place < length taken = slice_get_within taken place t at in absurd (omega (arith, low, later, born));
}

pub settled_fill : (entries : Entries) (taken : List Taken) (entry : Entry) → entry.born ≡ length taken → IsSettled entries taken
    → IsSettled (finite.insert entries entry.tag entry) taken
settled_fill entries taken entry born s u e is =
    ⊎_elim
    (λ (own : (eq_by_cmp tag_cmp u entry.tag ≡ true) × (Some entry ≡ Some e)).
    subst (λ (x : Entry). IsSettledEntry taken u x) (same_entry entry e own.1) (settled_new taken u entry born))
    (λ (old : finite.get entries u ≡ Some e). s u e old)
    (at_changed (eq_by_cmp tag_cmp u entry.tag) (Some entry) (finite.get entries u) e (sym (get-insert tag_cmp_total entries entry.tag entry u) ∙ is))

pub settled_born : (entries : Entries) (taken : List Taken) (entry : Entry) → IsSettledEntry taken entry.tag entry → IsSettled entries taken
    → IsSettled (finite.insert entries entry.tag entry) taken
settled_born entries taken entry own_is s u e is =
    ⊎_elim
    (λ (own : (eq_by_cmp tag_cmp u entry.tag ≡ true) × (Some entry ≡ Some e)).
    subst (λ (p : Tag × Entry). IsSettledEntry taken p.0 p.1) (λ k. (sym (tells_apart tag_cmp_exact u entry.tag own.0) k, same_entry entry e own.1 k)) own_is)
    (λ (old : finite.get entries u ≡ Some e). s u e old)
    (at_changed (eq_by_cmp tag_cmp u entry.tag) (Some entry) (finite.get entries u) e (sym (get-insert tag_cmp_total entries entry.tag entry u) ∙ is))

-- ---- one more command

get_last : (xs : List Taken) (y t : Taken) (i : ℕ) → slice_get (xs ++ y ∷ []) i ≡ Some t → (slice_get xs i ≡ Some t) ⊎ (y ≡ t)
get_last [] y t zero e = inr (cc)
get_last [] y t (suc i) e = absurd (cc)
get_last (x ∷ xs) y t zero e = inl e
get_last (x ∷ xs) y t (suc i) e = get_last xs y t i e

settled_more : (taken : List Taken) (t : Taken) (tag : Tag) (entry : Entry) → IsSettledEntry taken tag entry → ¬ HasCovered t tag → IsSettledEntry (taken ++ t ∷ []) tag entry
settled_more taken t tag entry s free = record {
  born = let b = s.born in let many = length-append taken (t ∷ []) in omega (arith, b, many);
  uncovered = λ place u at later.
      ⊎_elim
      (λ (old : slice_get taken place ≡ Some u). s.uncovered place u old later)
      (λ (new : t ≡ u). subst (λ (x : Taken). ¬ HasCovered x tag) new free)
      (get_last taken t u place at);
}

-- A replaced command covers nothing.
pub settled_replaced : (entries : Entries) (taken : List Taken) (raw : Raw) → IsSettled entries taken
    → IsSettled entries (taken ++ record { raw = raw; outcome = Replaced } ∷ [])
settled_replaced entries taken raw s tag entry is =
    settled_more taken (record { raw = raw; outcome = Replaced }) tag entry (s tag entry is) (λ c. let no : Replaced ≡ Applied = c.applied in absurd (cc))

-- A command's words spell only that command, so what it covers is gone.
pub settled_applied : (entries : Entries) (taken : List Taken) (raw : Raw) (command : Command) (outcome : Outcome)
    → ((c : Command) → Spells raw c → c ≡ command) → IsSettled entries taken
    → IsSettled (without_covered command entries) (taken ++ record { raw = raw; outcome = outcome } ∷ [])
settled_applied entries taken raw command outcome alone s tag entry is =
    ⊎_elim
    (λ (gone : (not (covers command tag) ≡ false) × (None ≡ Some entry)). let no = gone.1 in absurd (cc))
    (λ (stays : (covers command tag ≡ false) × (finite.get entries tag ≡ Some entry)).
    settled_more taken (record { raw = raw; outcome = outcome }) tag entry (s tag entry stays.1)
    (λ c. let same : covers c.command tag ≡ covers command tag = ap (λ (x : Command). covers x tag) (alone c.command c.spelled) in
    let yes = c.covered in let no = stays.0 in absurd (cc)))
    (kept_at (covers command tag) (finite.get entries tag) (sym (get-retain_keys entries (λ t. not (covers command t)) tag
    (λ x e. ap (λ y. not (covers command y)) (sym (tag_cmp_exact tag x e)))) ∙ is))
  where
    kept_at : (b : Bool) (old : Option Entry) → cond (not b) old None ≡ Some entry
        → ((not b ≡ false) × (None ≡ Some entry)) ⊎ ((b ≡ false) × (old ≡ Some entry))
    kept_at true old e = inl (refl, e)
    kept_at false old e = inr (refl, e)

pub settled_as_before : (entries : Entries) (taken : List Taken) → IsSettled entries taken → IsSettled entries (taken ++ [])
settled_as_before entries taken s = subst (λ (l : List Taken). IsSettled entries l) (sym (append-nil taken)) s
