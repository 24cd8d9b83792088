use Rattle.std.proofs.Common.{◌≡◌, false, cond, refl, sym, ap, ◌∙◌}
use Rattle.transactions.specs.Coverage.{is_invalidation}
use Rattle.transactions.specs.Since.{kept_with}
use Rattle.transactions.proofs.Covering.{covers_no_slot}
use Rattle.transactions.proofs.Spelled.{spelled_kind}
use Rattle.transactions.proofs.tracking.Tracking.note.Goals as goal

pub returns-else-is_invalidation : goal.returns-else-is_invalidation
returns-else-is_invalidation c = record {
  noted = λ command spelled.
      let kept = c.args.self.now.recent in
      let kind : is_invalidation command ≡ false = sym (spelled_kind c.args.raw command spelled) ∙ sym c.is_invalidation.ensures ∙ c.if-is_invalidation.false in
      record {
        recent = sym (ap (λ b. cond b (kept_with kept (record { place = c.args.place; raw = c.args.raw })) kept) kind);
        outstanding = covers_no_slot command c.args.self.now.outstanding kind;
        next_number = refl;
      };
}
