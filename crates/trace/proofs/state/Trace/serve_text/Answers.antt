use Rattle.std.proofs.Common.{◌++◌, refl, sym, ◌∙◌, subst}
use Rattle.transactions.specs.Tracking.{IsTracked}
use Rattle.trace.specs.Replies.{reply_text}
use Rattle.trace.specs.Traces.{TraceValue}
use Rattle.trace.proofs.state.Trace.serve_text.Goals as goal

pub returns-in_ok-say_reply-in-Ok : goal.returns-in_ok-say_reply-in-Ok
returns-in_ok-say_reply-in-Ok c =
    let said = c.in-Ok.said in
    let told = c.in-Ok.ensures in
    record {
      answer = reply_text said;
      text = c.in_ok-say_reply-in-Ok.ensures;
      answers = λ taken is.
          let s = told.1 taken is in (
            said,
            s.more,
            record {
              short = c.requires;
              request = c.in-Some.request;
              asked = sym c.parse.ensures ∙ c.in-Some.is;
              served = told.0;
              right = s.served;
              new_is = told.2;
            },
            refl,
            subst (λ (t : TraceValue). IsTracked t.unit (taken ++ s.more)) (sym told.2) s.tracked,
          );
    }
