use Rattle.std.proofs.Common.{◌∙◌, sym, ap}
use Rattle.std.specs.Option.{option_copied}
use Rattle.graph_builder.proofs.GraphLemmas.{none_first, within_later}
use Rattle.graph_builder.proofs.entries.EntriesIterator.next.Goals as goal

-- each number that is left is one of an entry
pub unreachable-requires : goal.unreachable-requires
unreachable-requires c =
    none_first c.args.self.now.all.now c.args.self.now.rest.now c.in_ok-first.rest.now c.in_ok-first.first.now
    c.args.self.now.within c.in_ok-first.ensures.cases.0
    (sym c.numbered.ensures ∙ ap option_copied c.in_default.is)

pub invariant_of-self : goal.invariant_of-self
invariant_of-self c = record {
  within = within_later c.args.self.now.all.now c.args.self.now.rest.now c.in_ok-first.rest.now
      c.in_ok-first.first.now c.args.self.now.within c.in_ok-first.ensures.cases.0;
}
