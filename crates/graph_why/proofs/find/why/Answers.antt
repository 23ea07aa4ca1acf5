-- The number is the specifier's.
use Rattle.std.proofs.Common.{◌∙◌, subst, sym}
use Rattle.std.proofs.lemmas.Result.{IfOk-weaker}
use Rattle.graph_entry.specs.Specifier.{text_of}
use Rattle.graph_builder.specs.Rules.{Specifier}
use Rattle.graph_why.specs.Why.{IsWhy}
use Rattle.graph_why.proofs.WhyLemmas.{name_is, number_own, none_held}
use Rattle.graph_why.proofs.find.why.Goals as goal

pub why_node-requires : goal.why_node-requires
why_node-requires c =
    number_own c.args.graph.now c.args.following (text_of c.args.specifier.now) c.in-Some.node
    (sym c.number.ensures.value ∙ c.in-Some.is)

pub returns-in-Some : goal.returns-in-Some
returns-in-Some c =
    IfOk-weaker c.why_node.result _ _
    (λ found is.
    subst (λ (s : Specifier). IsWhy c.args.graph.now c.args.following s found)
    (name_is c.args.graph.now c.args.following (text_of c.args.specifier.now) c.in-Some.node
    (sym c.number.ensures.value ∙ c.in-Some.is)) is)
    c.why_node.ensures

pub returns-in-None : goal.returns-in-None
returns-in-None c =
    none_held c.args.graph.now c.args.following (text_of c.args.specifier.now)
    (sym c.number.ensures.value ∙ c.in-None.is)
