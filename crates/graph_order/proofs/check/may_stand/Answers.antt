use Rattle.std.proofs.Common.{◌≡◌, ◌∙◌, sym, ap, false}
use Rattle.std.specs.Prelude.{is_some}
use Rattle.std.specs.Option.{option_copied}
use Rattle.graph_builder.specs.Reach.{has}
use Rattle.graph_builder.specs.ByText.{keys_at}
use Rattle.graph_builder.specs.Graph.{entry_of}
use Rattle.graph_entry.specs.Specifier.{text_of}
use Rattle.graph_order.proofs.CheckLemmas.{has_number, free_from, free_leads, module_found, module_none}
use Rattle.graph_order.proofs.check.may_stand.Goals as goal

pub returns-then-is_some : goal.returns-then-is_some
returns-then-is_some c = (
  λ e. absurd cc,
  λ free. absurd
      (let among = has_number c.args.placed.now (text_of c.args.url.now) in
      let number = c.number.ensures.value in
      let there = sym c.is_some.ensures ∙ c.if-is_some.true in
      let none = free.open_yet in cc),
)

pub returns-in-Some : goal.returns-in-Some
returns-in-Some c =
    let found = module_found (entry_of c.args.graph.now.entries (text_of c.args.url.now)) c.in-Some.held.now
    (sym c.module_at.ensures ∙ ap option_copied c.in-Some.is) in
    let none : has (keys_at c.args.placed.now) (text_of c.args.url.now) ≡ false
    = has_number c.args.placed.now (text_of c.args.url.now) ∙ ap is_some (sym c.number.ensures.value)
    ∙ sym c.is_some.ensures ∙ c.if-is_some.false in (
      λ yes. free_from c.args.graph.now.entries (keys_at c.args.placed.now) (text_of c.args.url.now) c.in-Some.held.now
          found none (c.leads_back.ensures.0 yes),
      λ free. c.leads_back.ensures.1 (free_leads c.args.graph.now.entries (keys_at c.args.placed.now)
          (text_of c.args.url.now) c.in-Some.held.now found free),
    )

pub returns-in-None : goal.returns-in-None
returns-in-None c = (
  λ e. absurd cc,
  λ free. absurd (module_none (entry_of c.args.graph.now.entries (text_of c.args.url.now))
      (sym c.module_at.ensures ∙ ap option_copied c.in-None.is) free.there.0 free.there.1),
)
