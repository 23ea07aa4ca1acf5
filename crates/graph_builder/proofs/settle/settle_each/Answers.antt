use Rattle.std.proofs.Common.{◌∙◌, ap, length}
use Rattle.std.proofs.lemmas.List.{length-map}
use Rattle.graph_builder.specs.Rules.{rules_of}
use Rattle.graph_builder.specs.Settling.{verdict_of}
use Rattle.graph_builder.proofs.SettlingLemmas.{verdicts_even, verdicts_each, judged_even, settled_whole}
use Rattle.graph_builder.proofs.settle.settle_each.Goals as goal

pub judged_each-requires : goal.judged_each-requires
judged_each-requires c =
    let by_rules = verdicts_even (rules_of c.args.following) c.args.firsts c.args.verdicts.now
    c.into_parts-specifiers.result.0.keys c.into_parts-specifiers.result.1 c.into_parts-specifiers.ensures.even
    c.into_parts-specifiers.ensures.entries c.requires in
    record {
      even = ap length by_rules
          ∙ length-map c.into_parts-specifiers.result.1 (verdict_of (rules_of c.args.following) c.args.firsts);
      each = verdicts_each (rules_of c.args.following) c.args.firsts c.args.verdicts.now
          c.into_parts-specifiers.result.1 by_rules;
    }

pub from_parts-requires : goal.from_parts-requires
from_parts-requires c =
    let by_rules = verdicts_even (rules_of c.args.following) c.args.firsts c.args.verdicts.now
    c.into_parts-specifiers.result.0.keys c.into_parts-specifiers.result.1 c.into_parts-specifiers.ensures.even
    c.into_parts-specifiers.ensures.entries c.requires in
    judged_even c.args.verdicts.now c.into_parts-specifiers.result.0.keys c.into_parts-specifiers.result.1
    c.in_ok-entries.entries
    c.into_parts-specifiers.ensures.even
    (ap length by_rules ∙ length-map c.into_parts-specifiers.result.1
    (verdict_of (rules_of c.args.following) c.args.firsts))
    c.in_ok-entries.ensures

pub returns : goal.returns
returns c =
    c.from_parts.ensures
    ∙ settled_whole (rules_of c.args.following) c.args.firsts c.args.verdicts.now c.into_parts-specifiers.result.0.keys
    c.into_parts-specifiers.result.1 c.in_ok-entries.entries c.into_parts-specifiers.ensures.even
    c.into_parts-specifiers.ensures.entries c.requires
    c.in_ok-entries.ensures
