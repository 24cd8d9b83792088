-- A keeper lends a seat.
use Rattle.std.proofs.Common.{◌≡◌, ◌≢◌, ℕ, List, [], refl, sym, ap, ◌∙◌, subst, ⊎_elim}
use Rattle.std.specs.Prelude.{Option, Some, None}
use Rattle.ring.specs.table.{Splits, TableId, Participant, Holding, RuleHolds, Any, ring_of, history_of_first, AllKnow, without, own_part}
use Rattle.ring.specs.Runs.{Who, Run, same, Ring, IsOne}
use Rattle.ring.specs.Keepers.{KeeperValue, keeper_of, missing_from, missing, AllBut, IsKeeper, has_lent}
use Rattle.ring.proofs.TableLemmas.Keeping.{know_less, any_parted, lends_at}
use Rattle.ring.proofs.KeeperLemmas.Seated.{all_sit, sits_any, sits_not, one_missing, IsOther, someone, first_knows}

module _ (table : TableId) (p : KeeperValue) (v : List Participant) (is : keeper_of table v ≡ p) (knows : AllBut (missing v) (ring_of v) (history_of_first v) v) (whole : p.lent ≡ None) (who : Who) (known : IsOne p.ring.made_with.senders who) where
  abbrev z : Ring
  z = ring_of v

  abbrev run : Run
  run = history_of_first v

  one_of : IsOne z.senders who
  one_of = subst (λ (q : KeeperValue). IsOne q.ring.made_with.senders who) (sym is) known

  pub lends_as : (key : Ring) (id : ℕ) → Splits (RuleHolds key) id v (without who v) (own_part who v)
  lends_as key id = lends_at key z id who run v knows.each (all_sit table p v is knows whole who one_of)

  abbrev left : List Participant
  left = without who v

  left_knows : AllKnow z run left
  left_knows = know_less z run who v knows.each

  left_sits : (u : Who) → IsOne z.senders u → u ≢ who → Any (λ q. q.who ≡ u) left
  left_sits u one ne = ⊎_elim (λ (here : Any (λ q. q.who ≡ u) left). here) (λ (is : who ≡ u). absurd (ne (sym is))) (any_parted (λ q. q.who ≡ u) z run who v knows.each (all_sit table p v is knows whole u one))

  apart : IsOther z.senders who
  apart = someone z.senders who knows.some

  left_first : (ring_of left ≡ z) × (history_of_first left ≡ run)
  left_first = first_knows z run left (λ q. q.who ≡ apart.other) left_knows (left_sits apart.other apart.one apart.apart)

  left_missing : missing left ≡ Some who
  left_missing = ap (λ (r : Ring). missing_from 0 r.senders left) left_first.0
      ∙ one_missing z.senders left who one_of (sits_not who v) (λ u one ne. sits_any u left (left_sits u one ne))

  left_base : AllBut (Some who) z run left
  left_base = record {
    some = knows.some;
    each = left_knows;
    others = λ u one ne. left_sits u one (λ e. ne (ap (λ (w : Who). let o : Option Who = Some w in o) e));
    stands = knows.stands;
  }

  pub left_keeps : (old new : Holding) → old.0 ≡ v → old.1 ≡ [] → new ≡ (without who old.0, old.1) → IsKeeper new
  left_keeps old new old_is bare e = subst IsKeeper (sym (e ∙ (λ k. (without who (old_is k), bare k)))) record {
    no_slots = refl;
    knows = subst (λ (t : Ring × Run × Option Who). AllBut t.2 t.0 t.1 left) (λ k. (sym left_first.0 k, sym left_first.1 k, sym left_missing k)) left_base;
  }

  pub left_is : (new_table : TableId) (new : List Participant) → new_table ≡ table → new ≡ without who v → keeper_of new_table new ≡ has_lent who p
  left_is new_table new same e = (λ k. keeper_of (same k) (e k))
      ∙ (λ k. let q : KeeperValue = record { ring = record { table = table; made_with = left_first.0 k }; lent = left_missing k; run = left_first.1 k } in q)
      ∙ ap (has_lent who) is
