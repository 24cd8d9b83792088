-- How single tags are ordered: tags that differ in one part alone are two tags, and the order is that
-- of their parts.
use Rattle.std.proofs.Common.{◌≡◌, [], ◌∷◌, Some, None, refl}
use Rattle.std.specs.declared.cmp.Ordering.TheVariants.{Less, Equal, Greater}
use Rattle.caches.specs.declared.tag.Scope.TheVariants.{Global, Of}
use Rattle.caches.specs.declared.tag.Tag.TheVariants.{Ste, Cd, S1, S2, El2, Atc}
use Rattle.caches.specs.TagOrder.{scope_number, substream_number, numbers, tag_cmp}

pub a_tag_is_equal_to_itself : tag_cmp (S1 5 (Of 7) 512 9) (S1 5 (Of 7) 512 9) ≡ Equal
a_tag_is_equal_to_itself = refl

pub a_smaller_page_is_less : tag_cmp (S1 5 (Of 7) 3 0) (S1 5 (Of 7) 4 0) ≡ Less
a_smaller_page_is_less = refl

pub a_greater_machine_is_greater : tag_cmp (S1 6 (Of 7) 3 0) (S1 5 (Of 8) 4 1) ≡ Greater
a_greater_machine_is_greater = refl

pub global_is_before_space_0 : tag_cmp (S1 5 Global 3 0) (S1 5 (Of 0) 3 0) ≡ Less
global_is_before_space_0 = refl

pub each_space_has_its_number : scope_number (Of 7) ≡ 8
each_space_has_its_number = refl

pub none_is_before_substream_0 : tag_cmp (Atc 5 None 3 0) (Atc 5 (Some 0) 3 0) ≡ Less
none_is_before_substream_0 = refl

pub each_substream_has_its_number : substream_number (Some 9) ≡ 10
each_substream_has_its_number = refl

pub a_page_is_before_the_block_that_begins_with_it :
    tag_cmp (S1 5 (Of 7) 512 0) (S1 5 (Of 7) 512 9) ≡ Less
a_page_is_before_the_block_that_begins_with_it = refl

pub a_block_of_stage_2_has_its_span : tag_cmp (S2 5 512 0) (S2 5 512 9) ≡ Less
a_block_of_stage_2_has_its_span = refl

pub stage_1_is_before_stage_2 : tag_cmp (S1 5 Global 3 0) (S2 5 0 3) ≡ Less
stage_1_is_before_stage_2 = refl

pub an_entry_is_before_a_descriptor : tag_cmp (Ste 5) (Cd 5 0) ≡ Less
an_entry_is_before_a_descriptor = refl

pub each_substream_has_its_descriptor : tag_cmp (Cd 5 8) (Cd 5 9) ≡ Less
each_substream_has_its_descriptor = refl

pub the_hypervisors_spaces_are_apart : tag_cmp (El2 (Of 7) 3 0) (El2 (Of 8) 3 0) ≡ Less
the_hypervisors_spaces_are_apart = refl

pub the_numbers_of_an_endpoints_tag : numbers (Atc 5 (Some 9) 8 3) ≡ 5 ∷ 5 ∷ 10 ∷ 8 ∷ 3 ∷ []
the_numbers_of_an_endpoints_tag = refl
