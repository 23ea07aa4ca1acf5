-- The comments of both maps are left.
use Rattle.std.specs.Slice.Iter.{iter_rest}
use Rattle.es_comments.proofs.IteratorLemmas.{all_left}
use Rattle.es_comments.proofs.shared.MultiThreadedComments.iter_unstable.Goals as goal

pub returns : goal.returns
returns c =
    all_left _ c.deref.result.now c.deref-2.result.now c.args.self.now (iter_rest c.iter.result) c.values.result
    c.values-2.result c.iter.ensures.rest c.values.ensures.rest c.values-2.ensures.rest c.deref.ensures
    c.deref-2.ensures
    c.self.view_is
