use Rattle.std.proofs.Common.{◌≡◌, ℕ, true, below_more}
use Rattle.xif_sampler.specs.Steps.{source_at, is_of, readers_at, IsAmong}
use Rattle.xif_sampler.proofs.keeping.readers_of.Goals as goal

pub loop-i-preserved : goal.loop-i-preserved
loop-i-preserved c =
    let i = c.loop-i in
    let sources = c.args.sources.now in
    let readers = c.add_reader.new.readers.items in
    let added = c.in_ok-add_reader.ensures in
    record {
      covers = λ code.
          let P : ℕ → Type 0 = λ k. is_of code (source_at sources k) ≡ true → IsAmong (readers_at readers code) k in
          below_more P i.i (λ k h e. added.kept code k (i.invariant.covers code k h e)) (rw c.from.ensures at (added.added code));
      inside = added.inside i.invariant.inside;
    }
