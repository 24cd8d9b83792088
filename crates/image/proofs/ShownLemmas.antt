-- Lines that are told one after another, while front pieces of them are written.
use Rattle.std.proofs.Common.{◌≡◌, ℕ, ◌+◌, ◌<◌, ◌≤◌, List, [], ◌∷◌, ◌++◌, length, take, drop, get_or, refl, ap, sym, ◌∙◌, subst, append_assoc, append-nil, take-append-drop, Option}
use Rattle.std.proofs.lemmas.List.{take_all, take_more}
use Rattle.std.proofs.lemmas.List.Concat.{flat_map-append}
use Rattle.std.specs.List.{flat_map}
use Rattle.std.proofs.KnownBytes.{Appends-nil, Appends-trans}
use Rattle.script.specs.Serving.{WritesFront}
use Rattle.image.specs.Showings.{Moved, Drained}

-- the text of the first lines
abbrev pub first_lines : (ℕ → List ℕ) → List ℕ → ℕ → List ℕ
first_lines line xs i = flat_map line (take i xs)

pub moved_start : (before : Option (List ℕ)) (text : List ℕ) (line : ℕ → List ℕ) (xs : List ℕ) → Moved before before text text (first_lines line xs 0)
moved_start before text line xs = record { told = []; written = Appends-nil before; split = append-nil text }

one_more : (line : ℕ → List ℕ) (xs : List ℕ) (i : ℕ) → i < length xs → first_lines line xs (i + 1) ≡ first_lines line xs i ++ line (get_or xs i 0)
one_more line xs i inside =
    ap (flat_map line) (take_more xs i 0 inside) ∙ flat_map-append line (take i xs) (get_or xs i 0 ∷ []) ∙ ap (λ t. first_lines line xs i ++ t) (append-nil (line (get_or xs i 0)))

-- one line more, after which pieces were written
pub moved_on : (before mid after : Option (List ℕ)) (old text said left : List ℕ) (line : ℕ → List ℕ) (xs : List ℕ) (i : ℕ) → i < length xs
    → Moved before mid old text (first_lines line xs i) → said ≡ text ++ line (get_or xs i 0) → Drained mid after said left
    → Moved before after old left (first_lines line xs (i + 1))
moved_on before mid after old text said left line xs i inside moved say drained = record {
  told = moved.told ++ drained.told;
  written = Appends-trans before mid after moved.told drained.told moved.written drained.written;
  split =
      ap (λ t. old ++ t) (one_more line xs i inside)
      ∙ sym (append_assoc old (first_lines line xs i) (line (get_or xs i 0)))
      ∙ ap (λ t. t ++ line (get_or xs i 0)) moved.split
      ∙ append_assoc moved.told text (line (get_or xs i 0))
      ∙ ap (λ t. moved.told ++ t) (sym say ∙ drained.split)
      ∙ sym (append_assoc moved.told drained.told left);
}

rest_of : (line : ℕ → List ℕ) (xs : List ℕ) (i : ℕ) → first_lines line xs i ++ flat_map line (drop i xs) ≡ flat_map line xs
rest_of line xs i = sym (flat_map-append line (take i xs) (drop i xs)) ∙ ap (flat_map line) (take-append-drop i xs)

-- A beginning of the whole was written so far.
pub moved_part : (before now : Option (List ℕ)) (old text : List ℕ) (line : ℕ → List ℕ) (xs : List ℕ) (i : ℕ) → Moved before now old text (first_lines line xs i)
    → WritesFront before now (old ++ flat_map line xs)
moved_part before now old text line xs i moved = record {
  front = moved.told;
  rest = text ++ flat_map line (drop i xs);
  split =
      ap (λ t. old ++ t) (sym (rest_of line xs i))
      ∙ sym (append_assoc old (first_lines line xs i) (flat_map line (drop i xs)))
      ∙ ap (λ t. t ++ flat_map line (drop i xs)) moved.split
      ∙ append_assoc moved.told text (flat_map line (drop i xs));
  written = moved.written;
}

-- A write failed over one line more.
pub moved_failed : (before mid after : Option (List ℕ)) (old text said : List ℕ) (line : ℕ → List ℕ) (xs : List ℕ) (i : ℕ) → i < length xs
    → Moved before mid old text (first_lines line xs i) → said ≡ text ++ line (get_or xs i 0) → WritesFront mid after said
    → WritesFront before after (old ++ flat_map line xs)
unfolding moved_on
moved_failed before mid after old text said line xs i inside moved say f =
    let whole = moved_on before mid mid old text said said line xs i inside moved say (record { told = []; written = Appends-nil mid; split = refl }) in
    record {
      front = moved.told ++ f.front;
      rest = f.rest ++ flat_map line (drop (i + 1) xs);
      split =
          ap (λ t. old ++ t) (sym (rest_of line xs (i + 1)))
          ∙ sym (append_assoc old (first_lines line xs (i + 1)) (flat_map line (drop (i + 1) xs)))
          ∙ ap (λ t. t ++ flat_map line (drop (i + 1) xs)) (whole.split ∙ ap (λ t. t ++ said) (append-nil moved.told) ∙ ap (λ t. moved.told ++ t) f.split ∙ sym (append_assoc moved.told f.front f.rest))
          ∙ append_assoc (moved.told ++ f.front) f.rest (flat_map line (drop (i + 1) xs));
      written = Appends-trans before mid after moved.told f.front moved.written f.written;
    }

-- all lines
pub moved_all : (before now : Option (List ℕ)) (old text : List ℕ) (line : ℕ → List ℕ) (xs : List ℕ) (i : ℕ) → length xs ≤ i → Moved before now old text (first_lines line xs i)
    → Moved before now old text (flat_map line xs)
moved_all before now old text line xs i all moved = subst (λ ys. Moved before now old text (flat_map line ys)) (take_all i xs all) moved
