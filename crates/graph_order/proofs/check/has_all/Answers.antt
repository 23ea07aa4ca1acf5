-- The modules of the entries that are left.
use Rattle.std.proofs.Common.{◌≡◌, ◌∙◌, sym, ap, true, false}
use Rattle.std.specs.Prelude.{is_some, not}
use Rattle.graph_builder.specs.ByText.{keys_at}
use Rattle.graph_builder.specs.Entries.{entries_left}
use Rattle.graph_builder.specs.Reach.{has}
use Rattle.graph_entry.specs.Specifier.{text_of}
use Rattle.graph_order.proofs.CheckLemmas.{has_number, holds_head, holds_tail, holds_cons}
use Rattle.graph_order.proofs.check.has_all.Goals as goal

pub returns-then-is_none-clause-each : goal.returns-then-is_none-clause-each
returns-then-is_none-clause-each c = (
  λ e. absurd cc,
  λ all. absurd
      (let there = holds_head (keys_at c.args.placed.now) (entries_left c.loop-specifier.specifier-iterator)
      (entries_left c.next.new.self) c.in-Some.specifier.now c.in-Some.entry.now c.in-Module.field-0
      (c.loop-specifier.invariant.back all) c.in-Some.ensures.steps c.in-Module.is in
      let among = has_number c.args.placed.now (text_of c.in-Some.specifier.now) in
      let number = c.number.ensures.value in
      let none : is_some c.number.result ≡ false = c.is_none.ensures ∙ ap not c.if-is_none.true in cc),
)

pub loop-specifier-preserved-else-is_none : goal.loop-specifier-preserved-else-is_none
loop-specifier-preserved-else-is_none c =
    let here : has (keys_at c.args.placed.now) (text_of c.in-Some.specifier.now) ≡ true
    = has_number c.args.placed.now (text_of c.in-Some.specifier.now) ∙ ap is_some (sym c.number.ensures.value)
    ∙ c.is_none.ensures ∙ ap not c.if-is_none.false in
    record {
      to = λ rest. c.loop-specifier.invariant.to (holds_cons (keys_at c.args.placed.now)
          (entries_left c.loop-specifier.specifier-iterator) (entries_left c.next.new.self) c.in-Some.specifier.now
          c.in-Some.entry.now rest here c.in-Some.ensures.steps);
      back = λ all. holds_tail (keys_at c.args.placed.now) (entries_left c.loop-specifier.specifier-iterator)
          (entries_left c.next.new.self) c.in-Some.specifier.now c.in-Some.entry.now
          (c.loop-specifier.invariant.back all) c.in-Some.ensures.steps;
    }
