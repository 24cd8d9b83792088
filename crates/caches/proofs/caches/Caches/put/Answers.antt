use Rattle.std.proofs.Common.{◌≡◌, ◌<◌, refl, None}
use Rattle.std.specs.FinMap as finite
use Rattle.caches.proofs.Kept.{put_are}
use Rattle.caches.proofs.caches.Caches.put.Goals as goal

pub invariant_of-self : goal.invariant_of-self
invariant_of-self c =
    let room : finite.get c.self.inside.held c.args.entry.tag ≡ None → finite.len c.self.inside.held < c.self.inside.capacity =
    λ e. rw (← c.self.view_is) at c.requires.room e in
    put_are c.self.inside (record c.self.inside { held = c.put.new.self }) c.args.entry c.put.result refl c.self.invariant room c.put.ensures
