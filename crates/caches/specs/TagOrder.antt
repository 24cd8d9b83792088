-- The order of tags: by kind, then by fields; Global before an address space, no substream before one.
use Rattle.std.specs.Prelude.{◌≡◌, ℕ, suc, zero, ◌==◌, List, [], ◌∷◌, Option, Some, None, slice_index, if◌then◌else◌}
use Rattle.std.proofs.Common.{refl, sym, ap, ◌∙◌}
use Rattle.std.specs.Coded.{Coded, code_by, coded×, coded_ℕ, coded_list}
use Rattle.std.specs.declared.cmp.Ordering.{Ordering}
use Rattle.std.specs.Ordering.{nat_cmp}
use Rattle.std.specs.Cmp.{IsTotalOrder, on_total}
use Rattle.std.specs.Cmp.Lexicographic.{slice_cmp, nat_list_cmp_total}
use Rattle.std.specs.FinMap.{IsAntisymmetric, slice_cmp-IsAntisymmetric, nat_cmp-IsAntisymmetric}
use Rattle.caches.specs.declared.tag.Scope.{Scope}
use Rattle.caches.specs.declared.tag.Scope.TheVariants.{Global, Of}
use Rattle.caches.specs.declared.tag.Tag.{Tag}
use Rattle.caches.specs.declared.tag.Tag.TheVariants.{Ste, Cd, S1, S2, El2, Atc}
use Rattle.caches.specs.declared.tag.Entry.{Entry}

abbrev pub scope_number : Scope → ℕ
scope_number Global = 0
scope_number (Of asid) = suc asid

abbrev pub substream_number : Option ℕ → ℕ
substream_number None = 0
substream_number (Some ssid) = suc ssid

-- a tag as numbers, which are ordered as tags are
abbrev pub numbers : Tag → List ℕ
numbers (Ste sid) = 0 ∷ sid ∷ 0 ∷ 0 ∷ 0 ∷ []
numbers (Cd sid ssid) = 1 ∷ sid ∷ ssid ∷ 0 ∷ 0 ∷ []
numbers (S1 vmid scope page span) = 2 ∷ vmid ∷ scope_number scope ∷ page ∷ span ∷ []
numbers (S2 vmid page span) = 3 ∷ vmid ∷ page ∷ span ∷ 0 ∷ []
numbers (El2 scope page span) = 4 ∷ scope_number scope ∷ page ∷ span ∷ 0 ∷ []
numbers (Atc sid ssid page span) = 5 ∷ sid ∷ substream_number ssid ∷ page ∷ span ∷ []

-- the order of tags
abbrev pub tag_cmp : Tag → Tag → Ordering
tag_cmp x y = slice_cmp nat_cmp (numbers x) (numbers y)

scope_from : ℕ → Scope
scope_from zero = Global
scope_from (suc a) = Of a

substream_from : ℕ → Option ℕ
substream_from zero = None
substream_from (suc s) = Some s

pub tag_from : ℕ → ℕ → ℕ → ℕ → ℕ → Tag
tag_from kind a b c d =
    if kind == 0 then Ste a
    else if kind == 1 then Cd a b
    else if kind == 2 then S1 a (scope_from b) c d
    else if kind == 3 then S2 a b c
    else if kind == 4 then El2 (scope_from a) b c
    else Atc a (substream_from b) c d

pub from_numbers : List ℕ → Tag
from_numbers ns = tag_from (slice_index ns 0) (slice_index ns 1) (slice_index ns 2) (slice_index ns 3) (slice_index ns 4)

scope_back : (s : Scope) → scope_from (scope_number s) ≡ s
unfolding scope_from
scope_back Global = refl
scope_back (Of a) = refl

substream_back : (s : Option ℕ) → substream_from (substream_number s) ≡ s
unfolding substream_from
substream_back None = refl
substream_back (Some a) = refl

pub from_numbers-numbers : (t : Tag) → from_numbers (numbers t) ≡ t
unfolding from_numbers tag_from
from_numbers-numbers (Ste sid) = refl
from_numbers-numbers (Cd sid ssid) = refl
from_numbers-numbers (S1 vmid scope page span) = ap (λ s. S1 vmid s page span) (scope_back scope)
from_numbers-numbers (S2 vmid page span) = refl
from_numbers-numbers (El2 scope page span) = ap (λ s. El2 s page span) (scope_back scope)
from_numbers-numbers (Atc sid ssid page span) = ap (λ s. Atc sid s page span) (substream_back ssid)

pub tag_cmp_total : IsTotalOrder tag_cmp
tag_cmp_total = on_total numbers nat_list_cmp_total

pub tag_cmp_exact : IsAntisymmetric tag_cmp
tag_cmp_exact x y e = sym (from_numbers-numbers x) ∙ ap from_numbers (slice_cmp-IsAntisymmetric nat_cmp-IsAntisymmetric (numbers x) (numbers y) e) ∙ from_numbers-numbers y

abbrev pub tag_code : Coded Tag
tag_code = code_by (List ℕ) (coded_list coded_ℕ) numbers from_numbers from_numbers-numbers

abbrev pub entry_code : Coded Entry
entry_code = code_by (List ℕ × (ℕ × ℕ)) (coded× (coded_list coded_ℕ) (coded× coded_ℕ coded_ℕ)) (λ e. (numbers e.tag, (e.value, e.born)))
    (λ p. record { tag = from_numbers p.0; value = p.1.0; born = p.1.1 }) (λ e i. record { tag = from_numbers-numbers e.tag i; value = e.value; born = e.born })
