-- What a command with no subcommand finds for an argument, if the words meet no fault.
use Rattle.std.proofs.Common.{◌≡◌, ◌∙◌, inl, inr, ◌∷◌, [], ◌&&◌, ◌||◌, ◌≤◌, ◌==◌, ℕ, Bool, true, false, true≢false, cond, not, List, Some, None, refl, sym, ap, ap₂, subst, arith, option_map, drop}
use Rattle.std.specs.Prelude.{find, option_and_then, pos, slice_get, unwrap_or}
use Rattle.std.specs.List.{list_all, list_any}
use Rattle.std.specs.Str.{bytes_eq}
use Rattle.std.specs.Str.Parse.{IsNumeral, digits_value, starts_with_minus, without_leading_plus}
use Rattle.std.proofs.lemmas.Bool.{ne_eqb, not-true}
use Rattle.std.proofs.lemmas.Int.{ints}
use Rattle.std.proofs.lemmas.Option.{same_Some}
use Rattle.std.proofs.lemmas.Slice.Eq.{bytes_eq-Decides}
use Rattle.std.proofs.lemmas.Str.Parse.{digit_from_value}
use Rattle.clap.specs.Lexer.{without_minus}
use Rattle.clap.specs.Facts.{parser_of_value}
use Rattle.clap.specs.Faults.{check_fault, defaults_fault, level_fault, settle_fault, walk_fault}
use Rattle.clap.specs.Kinds.{or_else, value_kinds}
use Rattle.clap.specs.Simple.{Shape}
use Rattle.clap.specs.Takes.{is_given}
use Rattle.clap.specs.Values.{IsSignedIn, read_as}
use Rattle.clap.specs.ValueTests.{accepts}
use Rattle.clap.specs.Walk.{Held, Row, Rule, Text, arg_by_id, first_of, has_row, is_empty, nothing_held, one_of, reading_by, row_text, rows_after, settled, walk, walk_from}
use Rattle.clap.specs.declared.builder.value_parser.Reading.{Reading}
use Rattle.clap.specs.declared.builder.value_parser.ValueParser.TheVariants.{Signed}
use Rattle.clap.specs.declared.error.kind.ErrorKind.TheVariants as kind
use Rattle.clap.proofs.ValueTestLemmas.{accepts-Accepts}
use Rattle.clap.proofs.WalkLemmas.{both}
use Rattle.command_line.proofs.Walks.{AreTaken, In, IsTaken, both_none, check_none, defaults_taken, defaults_there, found_in, given_has, is_once, settle_taken, walk_taken}

none_in : (p : Rule → Bool) (c : List Rule) (a : Rule) → list_any p c ≡ false → In a c → p a ≡ false
none_in p [] a e member = absurd member
none_in p (x ∷ xs) a e member = go (p x) refl (none_in p xs a) e member
  where
    go : (b : Bool) → p x ≡ b → (list_any p xs ≡ false → In a xs → p a ≡ false) → (b || list_any p xs) ≡ false → In a (x ∷ xs) → p a ≡ false
    go true is more f member = absurd (true≢false f)
    go false is more f (inl same) = ap p (sym same) ∙ is
    go false is more f (inr member) = more f member

any_in : (p : Rule → Bool) (c : List Rule) (a : Rule) → In a c → p a ≡ true → list_any p c ≡ true
any_in p [] a member e = absurd member
any_in p (x ∷ xs) a member e = go (p x) refl (any_in p xs a) member
  where
    go : (b : Bool) → p x ≡ b → (In a xs → p a ≡ true → list_any p xs ≡ true) → In a (x ∷ xs) → (b || list_any p xs) ≡ true
    go true is more member = refl
    go false is more (inl same) = absurd (true≢false (sym e ∙ ap p (sym same) ∙ is))
    go false is more (inr member) = more member e

-- no two arguments have one id
abbrev pub are_distinct : List Rule → Bool
are_distinct [] = true
are_distinct (x ∷ xs) = not (list_any (λ y. bytes_eq y.id x.id) xs) && are_distinct xs

-- the argument of an id is the one that is found by it
only : (c : List Rule) (a b : Rule) (i : Text) → In a c → bytes_eq a.id i ≡ true → arg_by_id c i ≡ Some b → are_distinct c ≡ true → a ≡ b
only [] a b i member same found distinct = absurd member
only (x ∷ xs) a b i member same found distinct = go (bytes_eq x.id i) refl (only xs a b i) member found
  where
    parts : (not (list_any (λ y. bytes_eq y.id x.id) xs) ≡ true) × (are_distinct xs ≡ true)
    parts = both _ _ distinct

    go : (t : Bool) → bytes_eq x.id i ≡ t → (In a xs → bytes_eq a.id i ≡ true → arg_by_id xs i ≡ Some b → are_distinct xs ≡ true → a ≡ b)
        → In a (x ∷ xs) → cond t (Some x) (arg_by_id xs i) ≡ Some b → a ≡ b
    go true is more (inl eq) f = sym eq ∙ same_Some _ _ f
    go true is more (inr member) f =
        let ids : a.id ≡ x.id = (bytes_eq-Decides a.id i).0 same ∙ sym ((bytes_eq-Decides x.id i).0 is) in
        let twice = any_in (λ y. bytes_eq y.id x.id) xs a member ((bytes_eq-Decides a.id x.id).1 ids) in
        absurd (true≢false (sym twice ∙ not-true _ parts.0))
    go false is more (inl eq) f = absurd (true≢false (sym same ∙ ap (λ (y : Rule). bytes_eq y.id i) (sym eq) ∙ is))
    go false is more (inr member) f = more member same f parts.1

-- the row of an id
row_at : (c : List Rule) (i : Text) (rows : List Row) → AreTaken c rows → has_row i rows ≡ true
    → (r : Row) × (find (λ x. bytes_eq x.id i) rows ≡ Some r) × (bytes_eq r.id i ≡ true) × IsTaken c r
row_at c i [] taken has = absurd (true≢false (sym has))
row_at c i (r ∷ rs) taken has = go (bytes_eq r.id i) refl (row_at c i rs) has
  where
    go : (b : Bool) → bytes_eq r.id i ≡ b
        → (AreTaken c rs → has_row i rs ≡ true → (x : Row) × (find (λ y. bytes_eq y.id i) rs ≡ Some x) × (bytes_eq x.id i ≡ true) × IsTaken c x)
        → (b || has_row i rs) ≡ true → (x : Row) × (cond b (Some r) (find (λ y. bytes_eq y.id i) rs) ≡ Some x) × (bytes_eq x.id i ≡ true) × IsTaken c x
    go true is more f = (r, refl, is, taken.0)
    go false is more f = more taken.1 f

-- an argument has one value, which it takes
abbrev pub HasValue : Text → Rule → List Row → Type 0
HasValue i b rows = (v : Text) × (first_of i rows ≡ Some v) × (one_of i rows ≡ Some (read_as (reading_by b) v))
    × (value_kinds b.ignore_case (parser_of_value b.parser) v ≡ [])

value_at : (c : List Rule) (i : Text) (b : Rule) (rows : List Row) → are_distinct c ≡ true → arg_by_id c i ≡ Some b → AreTaken c rows → has_row i rows ≡ true → HasValue i b rows
value_at c i b rows distinct found taken has = go (row_at c i rows taken has)
  where
    go : ((r : Row) × (find (λ x. bytes_eq x.id i) rows ≡ Some r) × (bytes_eq r.id i ≡ true) × IsTaken c r) → HasValue i b rows
    go x =
        let r = x.0 in
        let a = x.3.0 in
        let v = x.3.1 in
        let own : bytes_eq a.id i ≡ true = ap (λ t. bytes_eq t i) (sym x.3.3) ∙ x.2 in
        let is : a ≡ b = only c a b i x.3.2 own found distinct in
        let values : r.values ≡ v ∷ [] = x.3.4 in
        let reading : r.reading ≡ reading_by b = x.3.5 ∙ ap reading_by is in (
          v,
          ap (option_and_then (λ (y : Row). slice_get y.values 0)) x.1 ∙ ap (λ vs. slice_get vs 0) values,
          ap (option_and_then row_text) x.1 ∙ ap₂ (λ (how : Reading) vs. option_map (read_as how) (slice_get vs 0)) reading values,
          ap (λ (y : Rule). value_kinds y.ignore_case (parser_of_value y.parser) v) (sym is) ∙ x.3.6,
        )

module _ (s : Shape) (off : s.args_override_self ≡ false) (all : list_all is_once s.rules ≡ true) (negates : s.subcommand_negates_reqs ≡ false) (distinct : are_distinct s.rules ≡ true) where
  -- an argument that is required, or has a default
  pub leaf_value : (words : List Text) (i : Text) (b : Rule) → level_fault s [] nothing_held words false [] ≡ [] → arg_by_id s.rules i ≡ Some b → b.id ≡ i
      → (b.required || not (is_empty b.defaults)) ≡ true → HasValue i b (rows_after s.rules [] words)
  leaf_value words i b e found id some = value_at s.rules i b (rows_after s.rules [] words) distinct found taken (subst (λ t. has_row t (rows_after s.rules [] words) ≡ true) id has)
    where
      end : Held
      end = (walk s.rules [] nothing_held words).held

      walked : (walk_fault s [] (walk_from nothing_held) words ≡ []) × (or_else [] (or_else (settle_fault s.rules s.args_override_self end) (or_else (defaults_fault (settled s.rules end).rows s.rules) (check_fault s (rows_after s.rules [] words) false))) ≡ [])
      walked = both_none _ _ e

      ended : (settle_fault s.rules s.args_override_self end ≡ []) × (or_else (defaults_fault (settled s.rules end).rows s.rules) (check_fault s (rows_after s.rules [] words) false) ≡ [])
      ended = both_none _ _ walked.1

      checked : (defaults_fault (settled s.rules end).rows s.rules ≡ []) × (check_fault s (rows_after s.rules [] words) false ≡ [])
      checked = both_none _ _ ended.1

      taken : AreTaken s.rules (rows_after s.rules [] words)
      taken = defaults_taken s off all s.rules (settled s.rules end).rows (λ a member. member) checked.0 (settle_taken s off all end ended.0 (walk_taken s off all words (walk_from nothing_held) walked.0 tt))

      member : In b s.rules
      member = found_in _ s.rules b found

      none : (n l : Bool) → n ≡ false → (not (n && false) && l) ≡ false → l ≡ false
      none true l is f = absurd (true≢false is)
      none false l is f = f

      is_there : (required empty : Bool) → b.required ≡ required → is_empty b.defaults ≡ empty → (required || not empty) ≡ true → has_row b.id (rows_after s.rules [] words) ≡ true
      is_there true empty needed def f =
          let missing = none_in (λ a. a.required && not (is_given a.id (rows_after s.rules [] words))) s.rules b
          (none s.subcommand_negates_reqs _ negates (check_none _ _ _ checked.1).1) member in
          given_has b.id (rows_after s.rules [] words) (given b.required (is_given b.id (rows_after s.rules [] words)) needed missing)
        where
          given : (x y : Bool) → x ≡ true → (x && not y) ≡ false → y ≡ true
          given true true n m = refl
          given true false n m = absurd (true≢false m)
          given false y n m = absurd (true≢false (sym n))
      is_there false true needed def f = absurd (true≢false (sym f))
      is_there false false needed def f = defaults_there s.rules (settled s.rules end).rows b member def

      has : has_row b.id (rows_after s.rules [] words) ≡ true
      has = is_there b.required (is_empty b.defaults) refl refl some

-- ---- numbers

without_minus-cond : (t : List ℕ) → without_minus t ≡ cond (starts_with_minus t) (drop 1 t) t
without_minus-cond [] = refl
without_minus-cond (x ∷ xs) = go (x == 45)
  where
    go : (b : Bool) → unwrap_or (cond b (Some xs) None) (x ∷ xs) ≡ cond b xs (x ∷ xs)
    go true = refl
    go false = refl

no_plus : (ds : List ℕ) → IsNumeral 10 ds → without_leading_plus ds ≡ ds
no_plus [] h = refl
no_plus (d ∷ ds) h =
    let plus : (d == 43) ≡ false = ne_eqb _ _ (λ e. omega (arith, digit_from_value d h.1.0)) in
    ap (λ (b : Bool). drop (cond b 1 0) (d ∷ ds)) plus

-- the text writes a number from low to high
abbrev pub Writes : ℕ → ℕ → Text → Type 0
Writes low high t = IsNumeral 10 (without_leading_plus t) × (low ≤ digits_value 10 (without_leading_plus t)) × (digits_value 10 (without_leading_plus t) ≤ high)

signed_writes : (low high : ℕ) (t : Text) → IsSignedIn (pos low) (pos high) t → Writes low high (without_minus t)
signed_writes low high t passed = subst (Writes low high) (sym (without_minus-cond t)) (go (starts_with_minus t) refl)
  where
    go : (b : Bool) → starts_with_minus t ≡ b → Writes low high (cond b (drop 1 t) t)
    go true minus =
        let low_ok = rw minus at passed.2 in
        let high_ok = rw minus at passed.3 in
        let numeral : IsNumeral 10 (drop 1 t) = rw minus at passed.0 in
        let same = no_plus (drop 1 t) numeral in
        (rw same numeral, rw same (omega (arith, ints)), rw same (omega (arith, ints)))
    go false minus =
        let low_ok = rw minus at passed.2 in
        let high_ok = rw minus at passed.3 in
        let numeral = rw minus at passed.0 in
        (numeral, omega (arith, ints), omega (arith, ints))

pub number_writes : (low high : ℕ) (t : Text) → value_kinds false (Signed (pos low) (pos high)) t ≡ [] → Writes low high (without_minus t)
number_writes low high t e = signed_writes low high t (accepts-Accepts false (Signed (pos low) (pos high)) t (go (accepts false (Signed (pos low) (pos high)) t) e))
  where
    go : (b : Bool) → cond b [] (kind.ValueValidation ∷ []) ≡ [] → b ≡ true
    go true f = refl
    go false f = cc
