-- Transactions and walks of one unit, given to another.
use Rattle.std.proofs.Common.{◌≡◌, ℕ, ◌<◌, Ok, refl, sym, ap, ◌∙◌, arith}
use Rattle.ringcore.specs.Limits.{most_reserved}
use Rattle.transactions.specs.declared.transaction.Ended.{Ended}
use Rattle.transactions.specs.Tracking.{TrackedValue, unit_of, first_number, number_after}
use Rattle.transactions.specs.Transactions.{TransactionValue, IsEndAnswer}
use Rattle.transactions.specs.Walks.{walk_number, began_of, began_on, IsRefusedElsewhere}

-- Unit 0 ends no transaction of unit 1, however alike they are otherwise.
pub another_unit_s_token_ends_nothing : (old new : TrackedValue) (token : TransactionValue) (ended : Ended) → old.next_number ≡ first_number 0 → token.number ≡ first_number 1
    → ¬ IsEndAnswer old token new (Ok ended)
another_unit_s_token_ends_nothing old new token ended ours theirs is =
    let same : unit_of (first_number 1) ≡ unit_of (first_number 0) = sym (ap unit_of theirs) ∙ is.0.own ∙ ap unit_of ours in
    absurd (omega (arith, same))

-- Numbers go on within a unit, from the last to the first.
pub last_number_is_followed_by_the_first : number_after (0x2ffffffffff) ≡ first_number 2
last_number_is_followed_by_the_first = refl

-- A walk of unit 1 that began after 5 commands counts as begun after more than are ever taken on unit 0, and after 5 on its own.
pub walk_of_another_unit_is_far : began_of 0 (walk_number 1 5) ≡ 0x100000000000000
walk_of_another_unit_is_far = refl

pub walk_of_its_own_unit_began_then : began_of 1 (walk_number 1 5) ≡ 5
walk_of_its_own_unit_began_then = refl

-- So no unit of another number takes it.
pub walk_elsewhere_is_after_all : (here other : TrackedValue) (walk : ℕ) → IsRefusedElsewhere here walk → unit_of here.next_number ≡ 0 → unit_of other.next_number ≡ 1 → most_reserved < began_on other walk
walk_elsewhere_is_after_all here other walk refused ours theirs =
    refused other (λ same. let one : 1 ≡ 0 = sym theirs ∙ same ∙ ours in absurd (omega (arith, one)))
