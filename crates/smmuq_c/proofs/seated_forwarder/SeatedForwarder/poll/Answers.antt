use Rattle.smmuq_c.proofs.seated_forwarder.SeatedForwarder.poll.Goals as goal

pub returns : goal.returns
returns c =
    let e = c.poll_words-progress.ensures in
    rw (← c.self.view_is) (record {
      progress = c.poll_words-progress.result;
      looked = e.looked;
      state = e.state;
      broken = λ broken. (e.broken broken.0 broken.1).1;
      stays = λ word is. (e.broken word is).0;
      settled = e.settled;
      status_is = c.polled.ensures;
      told_is = c.told_consumed.ensures;
      stands = record { order = e.order; consumed = e.consumed };
      goes_on = record { history = e.history; ring = e.ring };
    })
