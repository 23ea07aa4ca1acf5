use Rattle.std.specs.Prelude.{true}
use Rattle.std.proofs.Common.{arith, ap, sym, ◌∙◌}
use Rattle.es_lowering.specs.Texts.{span_of}
use Rattle.es_lowering.specs.Value.{item_at, part, stmt_at, Value}
use Rattle.es_syntax.specs.Held.{held, valued}
use Rattle.es_syntax.specs.Roles.{decl_in, declarable_in, expr_in, stmt_in}
use Rattle.es_view_modules.specs.items.Export.{the_export}
use Rattle.dts_rules.specs.Programs.{shown_item}
use Rattle.dts_rules.specs.Ranges.{has_range}
use Rattle.dts_draft.proofs.There.{same}
use Rattle.dts_enums.specs.Enums.{Declares}
use Rattle.dts_items.specs.Changed.{BlockDefaulted, IfChanged}
use Rattle.dts_items.specs.Decls.{DeclPuts}
use Rattle.dts_items.specs.Items.{item_turn, stmt_turn, ItemPuts}
use Rattle.dts_items.proofs.BlockLemmas as blocks
use Rattle.dts_items.proofs.DeclLemmas as decls
use Rattle.dts_items.proofs.DeclLemmas.{Unless}
use Rattle.dts_items.proofs.LabelLemmas as labels
use Rattle.dts_items.proofs.TurnLemmas as turns
use Rattle.dts_items.proofs.TurnLemmas.{stmt_list}
use Rattle.dts_items.proofs.ExportLemmas as exports
use Rattle.dts_items.proofs.+items.Goals as goal

-- ---- items
pub items::item-returns-then-is_module_decl-clause-items : goal.items::item-returns-then-is_module_decl-clause-items
items::item-returns-then-is_module_decl-clause-items t c = λ e turned.
    c.module_decl.ensures.written e turned

pub items::item-returns-then-is_module_decl-clause-stmts : goal.items::item-returns-then-is_module_decl-clause-stmts
items::item-returns-then-is_module_decl-clause-stmts t c = λ e turned by knows listed.
    let x = c.args.env.now.text.now in
    let ts = c.args.env.now.tokens.now in
    turns.no_stmt_made x ts by c.args.top c.args.out.now c.module_decl.new.out _
    (labels.no_stmt x ts c.args.it.now (c.is_module_decl.ensures ∙ c.if-is_module_decl.true))

pub items::item-returns-else-is_module_decl-clause-items : goal.items::item-returns-else-is_module_decl-clause-items
items::item-returns-else-is_module_decl-clause-items t c = λ e turned by knows listed.
    let x = c.args.env.now.text.now in
    let ts = c.args.env.now.tokens.now in
    turns.stmt_as_item x ts by c.args.top c.args.out.now c.stmt.new.out (stmt_in (valued x ts c.args.it.now)) _
    (labels.stmt_item x ts c.args.it.now (c.is_module_decl.ensures ∙ c.if-is_module_decl.false))
    (c.stmt.ensures.written e turned (c.is_module_decl.ensures ∙ c.if-is_module_decl.false) by knows listed)

pub items::item-returns-else-is_module_decl-clause-stmts : goal.items::item-returns-else-is_module_decl-clause-stmts
items::item-returns-else-is_module_decl-clause-stmts t c = λ e turned.
    c.stmt.ensures.written e turned (c.is_module_decl.ensures ∙ c.if-is_module_decl.false)

pub items::item_turn-returns-in-Some-clause-items : goal.items::item_turn-returns-in-Some-clause-items
items::item_turn-returns-in-Some-clause-items t c = λ e by knows listed.
    let x = c.args.env.now.text.now in
    let ts = c.args.env.now.tokens.now in
    turns.turn_of_item x ts by c.args.top c.args.out.now c.item.new.out (held x ts c.group-parts.result.entries.now)
    (valued x ts c.args.turn.now) (valued x ts c.in-Some.it) (c.group-parts.ensures.value x ts)
    (c.in-Some.ensures.value x ts)
    (c.item.ensures.items e (record {
      is = λ x ts. ap (λ (g : Value). part g 0) (sym (c.group-parts.ensures.value x ts)) ∙ c.in-Some.ensures.value x ts;
    }) by knows listed)

pub items::item_turn-returns-in-Some-clause-stmts : goal.items::item_turn-returns-in-Some-clause-stmts
items::item_turn-returns-in-Some-clause-stmts t c = λ e by knows listed.
    let x = c.args.env.now.text.now in
    let ts = c.args.env.now.tokens.now in
    turns.turn_of_stmt x ts by c.args.top c.args.out.now c.item.new.out (held x ts c.group-parts.result.entries.now)
    (valued x ts c.args.turn.now) (valued x ts c.in-Some.it) (c.group-parts.ensures.value x ts)
    (c.in-Some.ensures.value x ts)
    (c.item.ensures.stmts e (record {
      is = λ x ts. ap (λ (g : Value). part g 0) (sym (c.group-parts.ensures.value x ts)) ∙ c.in-Some.ensures.value x ts;
    }) by knows listed)

pub items::items-loop-turn-init : goal.items::items-loop-turn-init
items::items-loop-turn-init t c = (
  λ e. e,
  omega arith,
  λ e by knows listed.
      turns.left_all c.args.env.now.text.now c.args.env.now.tokens.now item_turn (λ it. shown_item by it c.args.top) _
      _ _,
  λ e by knows listed.
      turns.left_all c.args.env.now.text.now c.args.env.now.tokens.now stmt_turn
      (stmt_list c.args.env.now.text.now c.args.env.now.tokens.now by c.args.top) _ _ _,
)

pub items::items-loop-turn-preserved : goal.items::items-loop-turn-preserved
items::items-loop-turn-preserved t c =
    let below = c.in-Some.ensures.below in
    let within = c.loop-turn.invariant.1 in
    let x = c.args.env.now.text.now in
    let ts = c.args.env.now.tokens.now in (
      λ e. c.loop-turn.invariant.0 (c.item_turn.ensures.before e),
      omega arith,
      λ e by knows listed.
          turns.left_next x ts item_turn (λ it. shown_item by it c.args.top) (λ turn. item_at turn 0) c.args.out.now
          c.loop-turn.out c.item_turn.new.out _ _ _ _ (c.in-Some.ensures.value x ts)
          (c.loop-turn.invariant.2 (c.item_turn.ensures.before e) by knows listed)
          (c.item_turn.ensures.items e by knows listed),
      λ e by knows listed.
          turns.left_next x ts stmt_turn (stmt_list x ts by c.args.top) (λ turn. stmt_at turn 0) c.args.out.now
          c.loop-turn.out c.item_turn.new.out _ _ _ _ (c.in-Some.ensures.value x ts)
          (c.loop-turn.invariant.3 (c.item_turn.ensures.before e) by knows listed)
          (turns.stmt_listed x ts by c.args.top c.loop-turn.out c.item_turn.new.out _
          (c.item_turn.ensures.stmts e by knows listed)),
    )

pub items::items-returns-clause-items : goal.items::items-returns-clause-items
items::items-returns-clause-items t c = λ e by knows listed.
    let x = c.args.env.now.text.now in
    let ts = c.args.env.now.tokens.now in
    turns.left_done x ts item_turn (λ it. shown_item by it c.args.top) (λ turn. item_at turn 0) c.args.out.now
    c.loop-turn.out _ _ (c.in_default.ensures.value x ts) (c.loop-turn.invariant.2 e by knows listed)

pub items::items-returns-clause-stmts : goal.items::items-returns-clause-stmts
items::items-returns-clause-stmts t c = λ e by knows listed.
    let x = c.args.env.now.text.now in
    let ts = c.args.env.now.tokens.now in
    turns.stmts_put x ts by c.args.top c.args.out.now c.loop-turn.out _
    (turns.left_done x ts stmt_turn (stmt_list x ts by c.args.top) (λ turn. stmt_at turn 0) c.args.out.now
    c.loop-turn.out _ _ (c.in_default.ensures.value x ts) (c.loop-turn.invariant.3 e by knows listed))

-- ---- statements
pub stmts::decl_turn-returns-clause-written : goal.stmts::decl_turn-returns-clause-written
stmts::decl_turn-returns-clause-written t c = λ e by knows listed.
    let x = c.args.env.now.text.now in
    let ts = c.args.env.now.tokens.now in
    let f = c.close_group.ensures.before e in
    let g = c.decl.ensures.before f in
    turns.decl_turn x ts by c.args.top c.args.out.now c.open-place.new.self c.decl.new.out c.close_group.new.self _ _
    (c.open-place.ensures.written g) (c.open-place.ensures.place g) c.open-place.ensures.state
    (c.decl.ensures.written f by knows listed) (c.close_group.ensures.written e) c.close_group.ensures.state

pub stmts::function_stmt-returns-then-is_listed-clause-written :
    goal.stmts::function_stmt-returns-then-is_listed-clause-written
stmts::function_stmt-returns-then-is_listed-clause-written t c = λ e by knows listed.
    let x = c.args.env.now.text.now in
    let ts = c.args.env.now.tokens.now in
    turns.function_dropped x ts by c.args.top c.args.out.now c.dropped.new.self c.args.ranges.now
    (span_of ts c.args.it.now.from c.args.it.now.to) _ listed.are
    (ap (has_range c.args.ranges.now) (sym c.span_of.ensures) ∙ (c.is_listed.ensures ∙ c.if-is_listed.true))
    (c.dropped.ensures.written e x ts) c.dropped.ensures.state

pub stmts::function_stmt-returns-else-is_listed-clause-written :
    goal.stmts::function_stmt-returns-else-is_listed-clause-written
stmts::function_stmt-returns-else-is_listed-clause-written t c = λ e by knows listed.
    let x = c.args.env.now.text.now in
    let ts = c.args.env.now.tokens.now in
    turns.function_turn x ts by c.args.top c.args.out.now c.decl_turn.new.out c.args.ranges.now
    (span_of ts c.args.it.now.from c.args.it.now.to) _ listed.are
    (ap (has_range c.args.ranges.now) (sym c.span_of.ensures) ∙ (c.is_listed.ensures ∙ c.if-is_listed.false))
    (c.decl_turn.ensures.written e by knows listed)

pub stmts::decl_stmt-returns-in-Function-clause-written : goal.stmts::decl_stmt-returns-in-Function-clause-written
stmts::decl_stmt-returns-in-Function-clause-written t c = λ e turned declares by knows listed.
    let x = c.args.env.now.text.now in
    let ts = c.args.env.now.tokens.now in
    turns.function_stmt x ts by c.args.top c.args.out.now c.function_stmt.new.out
    (span_of ts c.args.it.now.from c.args.it.now.to) _ (rw c.in-Function.is at (c.sort_of.ensures x ts))
    (c.function_stmt.ensures.written e by knows listed)

pub stmts::decl_stmt-returns-in-Type-clause-written : goal.stmts::decl_stmt-returns-in-Type-clause-written
stmts::decl_stmt-returns-in-Type-clause-written t c = λ e turned declares by knows listed.
    let x = c.args.env.now.text.now in
    let ts = c.args.env.now.tokens.now in
    turns.type_stays x ts by c.args.top c.args.out.now c.keep_there.new.self c.args.turn.now c.args.it.now
    (span_of ts c.args.it.now.from c.args.it.now.to) turned (c.keep_there.ensures.written e x ts)
    c.keep_there.ensures.state
    (labels.decl_stmt x ts c.args.it.now declares)
    (labels.stmt_item x ts c.args.it.now (labels.decl_lone x ts c.args.it.now.what declares))
    (rw c.in-Type.is at (c.sort_of.ensures x ts))

pub stmts::decl_stmt-returns-in-Using-clause-written : goal.stmts::decl_stmt-returns-in-Using-clause-written
stmts::decl_stmt-returns-in-Using-clause-written t c = λ e turned declares by knows listed.
    let x = c.args.env.now.text.now in
    let ts = c.args.env.now.tokens.now in
    turns.using_stays x ts by c.args.top c.args.out.now c.keep_there-in-Using.new.self c.args.turn.now c.args.it.now
    (span_of ts c.args.it.now.from c.args.it.now.to) turned (c.keep_there-in-Using.ensures.written e x ts)
    c.keep_there-in-Using.ensures.state
    (labels.decl_stmt x ts c.args.it.now declares)
    (labels.stmt_item x ts c.args.it.now (labels.decl_lone x ts c.args.it.now.what declares))
    (rw c.in-Using.is at (c.sort_of.ensures x ts))

pub stmts::decl_stmt-returns-in-Other-clause-written : goal.stmts::decl_stmt-returns-in-Other-clause-written
stmts::decl_stmt-returns-in-Other-clause-written t c = λ e turned declares by knows listed.
    let x = c.args.env.now.text.now in
    let ts = c.args.env.now.tokens.now in
    turns.other_turn x ts by c.args.top c.args.out.now c.decl_turn.new.out
    (span_of ts c.args.it.now.from c.args.it.now.to) _ (rw c.in-Other.is at (c.sort_of.ensures x ts))
    (c.decl_turn.ensures.written e by knows listed)

pub stmts::stmt-returns-then-declares-clause-written : goal.stmts::stmt-returns-then-declares-clause-written
stmts::stmt-returns-then-declares-clause-written t c = λ e turned alone by knows listed.
    let x = c.args.env.now.text.now in
    let ts = c.args.env.now.tokens.now in
    let is = c.declares.ensures ∙ c.if-declares.true in
    turns.decl_as_stmt x ts by c.args.top c.args.out.now c.decl_stmt.new.out (decl_in (valued x ts c.args.it.now)) _
    (labels.decl_stmt x ts c.args.it.now is) (c.decl_stmt.ensures.written e turned is by knows listed)

pub stmts::stmt-returns-else-declares-clause-written : goal.stmts::stmt-returns-else-declares-clause-written
stmts::stmt-returns-else-declares-clause-written t c = λ e turned alone by knows listed.
    let x = c.args.env.now.text.now in
    let ts = c.args.env.now.tokens.now in
    turns.stmt_dropped x ts by c.args.top c.args.out.now c.dropped.new.self _
    (labels.other_stmt by x ts c.args.it.now (c.declares.ensures ∙ c.if-declares.false))
    (c.dropped.ensures.written e x ts) c.dropped.ensures.state

-- ---- exports
pub exports::exported-returns-clause-written : goal.exports::exported-returns-clause-written
exports::exported-returns-clause-written t c = λ e by knows listed.
    let x = c.args.env.now.text.now in
    let ts = c.args.env.now.tokens.now in
    let f = c.close_group.ensures.before e in
    let g = c.close_node.ensures.before f in
    let h = c.decl.ensures.before g in
    let i = c.open-place.ensures.before h in
    exports.exported x ts by c.args.top c.args.out.now c.open-group.new.self c.open-place.new.self c.decl.new.out
    c.close_node.new.self c.close_group.new.self _ _ c.args.it.now.from c.args.it.now.to _
    (c.open-group.ensures.written i) (c.open-group.ensures.place i) (c.open-place.ensures.written h)
    (c.open-place.ensures.place h) (c.open-place.ensures.state ∙ c.open-group.ensures.state)
    (c.decl.ensures.written g by knows listed) (c.close_node.ensures.written f) (c.close_group.ensures.written e)
    (c.close_group.ensures.state ∙ c.close_node.ensures.state)

pub exports::exported_function-returns-then-is_listed-clause-written :
    goal.exports::exported_function-returns-then-is_listed-clause-written
exports::exported_function-returns-then-is_listed-clause-written t c = λ e by knows listed.
    let x = c.args.env.now.text.now in
    let ts = c.args.env.now.tokens.now in
    exports.function_dropped x ts by c.args.top c.args.out.now c.dropped.new.self c.args.ranges.now
    (span_of ts c.args.it.now.from c.args.it.now.to) _ listed.are
    (ap (has_range c.args.ranges.now) (sym c.span_of.ensures) ∙ (c.is_listed.ensures ∙ c.if-is_listed.true))
    (c.dropped.ensures.written e x ts) c.dropped.ensures.state

pub exports::exported_function-returns-else-is_listed-clause-written :
    goal.exports::exported_function-returns-else-is_listed-clause-written
exports::exported_function-returns-else-is_listed-clause-written t c = λ e by knows listed.
    let x = c.args.env.now.text.now in
    let ts = c.args.env.now.tokens.now in
    exports.function_moved x ts by c.args.top c.args.out.now c.exported.new.out c.args.ranges.now
    (span_of ts c.args.it.now.from c.args.it.now.to) _ listed.are
    (ap (has_range c.args.ranges.now) (sym c.span_of.ensures) ∙ (c.is_listed.ensures ∙ c.if-is_listed.false))
    (c.exported.ensures.written e by knows listed)

pub exports::export_decl-returns-in-Function-clause-written :
    goal.exports::export_decl-returns-in-Function-clause-written
exports::export_decl-returns-in-Function-clause-written t c = λ e turned is by knows listed.
    let x = c.args.env.now.text.now in
    let ts = c.args.env.now.tokens.now in
    exports.function_export x ts by c.args.top c.args.out.now c.exported_function.new.out
    (span_of ts c.args.it.now.from c.args.it.now.to)
    (span_of ts c.args.inner.now.from c.args.inner.now.to) _ (rw c.in-Function.is at (c.sort_of.ensures x ts))
    (c.exported_function.ensures.written e by knows listed)

pub exports::export_decl-returns-in-Type-clause-written : goal.exports::export_decl-returns-in-Type-clause-written
exports::export_decl-returns-in-Type-clause-written t c = λ e turned is by knows listed.
    let x = c.args.env.now.text.now in
    let ts = c.args.env.now.tokens.now in
    exports.type_export x ts by c.args.top c.args.turn.now c.args.it.now c.args.out.now c.keep_there.new.self
    (span_of ts c.args.it.now.from c.args.it.now.to) (span_of ts c.args.inner.now.from c.args.inner.now.to) _ turned
    (c.keep_there.ensures.written e x ts) c.keep_there.ensures.state is (rw c.in-Type.is at (c.sort_of.ensures x ts))

pub exports::export_decl-returns-in-Using-clause-written : goal.exports::export_decl-returns-in-Using-clause-written
exports::export_decl-returns-in-Using-clause-written t c = λ e turned is by knows listed.
    let x = c.args.env.now.text.now in
    let ts = c.args.env.now.tokens.now in
    exports.using_export x ts by c.args.top c.args.out.now c.no_using.new.out
    (span_of ts c.args.it.now.from c.args.it.now.to)
    (span_of ts c.args.inner.now.from c.args.inner.now.to) _ (c.no_using.ensures.written e).state
    (c.no_using.ensures.written e).writes (rw c.in-Using.is at (c.sort_of.ensures x ts))

pub exports::export_decl-returns-in-Other-clause-written : goal.exports::export_decl-returns-in-Other-clause-written
exports::export_decl-returns-in-Other-clause-written t c = λ e turned is by knows listed.
    let x = c.args.env.now.text.now in
    let ts = c.args.env.now.tokens.now in
    exports.other_export x ts by c.args.top c.args.out.now c.exported.new.out
    (span_of ts c.args.it.now.from c.args.it.now.to)
    (span_of ts c.args.inner.now.from c.args.inner.now.to) _ (rw c.in-Other.is at (c.sort_of.ensures x ts))
    (c.exported.ensures.written e by knows listed)

pub exports::module_decl-returns-in-Some-All-clause-written :
    goal.exports::module_decl-returns-in-Some-All-clause-written
exports::module_decl-returns-in-Some-All-clause-written t c = λ e turned by knows listed.
    let x = c.args.env.now.text.now in
    let ts = c.args.env.now.tokens.now in
    exports.kept_module_item x ts by c.args.top c.args.turn.now c.args.it.now c.args.out.now c.keep_there.new.self _
    turned
    (c.keep_there.ensures.written e x ts) c.keep_there.ensures.state
    (rw c.in-Some-All.field-0-is at (c.in-Some-All.ensures.form x ts))
    (exports.all_view by x ts (span_of ts c.args.it.now.from c.args.it.now.to) _ _ _ _)

pub exports::module_decl-returns-in-Some-Names-clause-written :
    goal.exports::module_decl-returns-in-Some-Names-clause-written
exports::module_decl-returns-in-Some-Names-clause-written t c = λ e turned by knows listed.
    let x = c.args.env.now.text.now in
    let ts = c.args.env.now.tokens.now in
    exports.kept_module_item x ts by c.args.top c.args.turn.now c.args.it.now c.args.out.now
    c.keep_there-in-Some-Names.new.self _ turned
    (c.keep_there-in-Some-Names.ensures.written e x ts) c.keep_there-in-Some-Names.ensures.state
    (rw c.in-Some-Names.field-0-is at (c.in-Some-Names.ensures.form x ts))
    (exports.names_view by x ts (span_of ts c.args.it.now.from c.args.it.now.to) _ _ _)

pub exports::module_decl-returns-in-Some-Namespace-clause-written :
    goal.exports::module_decl-returns-in-Some-Namespace-clause-written
exports::module_decl-returns-in-Some-Namespace-clause-written t c = λ e turned by knows listed.
    let x = c.args.env.now.text.now in
    let ts = c.args.env.now.tokens.now in
    exports.kept_module_item x ts by c.args.top c.args.turn.now c.args.it.now c.args.out.now
    c.keep_there-in-Some-Namespace.new.self _ turned
    (c.keep_there-in-Some-Namespace.ensures.written e x ts) c.keep_there-in-Some-Namespace.ensures.state
    (rw c.in-Some-Namespace.field-0-is at (c.in-Some-Namespace.ensures.form x ts))
    (exports.namespace_view by x ts (span_of ts c.args.it.now.from c.args.it.now.to) _)

pub exports::module_decl-returns-in-Some-Assignment-clause-written :
    goal.exports::module_decl-returns-in-Some-Assignment-clause-written
exports::module_decl-returns-in-Some-Assignment-clause-written t c = λ e turned by knows listed.
    let x = c.args.env.now.text.now in
    let ts = c.args.env.now.tokens.now in
    exports.kept_module_item x ts by c.args.top c.args.turn.now c.args.it.now c.args.out.now
    c.keep_there-in-Some-Assignment.new.self _ turned
    (c.keep_there-in-Some-Assignment.ensures.written e x ts) c.keep_there-in-Some-Assignment.ensures.state
    (rw c.in-Some-Assignment.field-0-is at (c.in-Some-Assignment.ensures.form x ts))
    (exports.assignment_view by x ts (span_of ts c.args.it.now.from c.args.it.now.to) _)

pub exports::module_decl-returns-in-Some-DefaultDecl-clause-written :
    goal.exports::module_decl-returns-in-Some-DefaultDecl-clause-written
exports::module_decl-returns-in-Some-DefaultDecl-clause-written t c = λ e turned by knows listed.
    let x = c.args.env.now.text.now in
    let ts = c.args.env.now.tokens.now in
    turns.module_as_item x ts by c.args.top c.args.out.now c.export_default.new.out _ _
    (rw c.in-Some-DefaultDecl.field-0-is at (c.in-Some-DefaultDecl.ensures.form x ts))
    (c.export_default.ensures.written e c.args.top by knows listed)

pub exports::module_decl-returns-in-Some-DefaultExpr-clause-written :
    goal.exports::module_decl-returns-in-Some-DefaultExpr-clause-written
exports::module_decl-returns-in-Some-DefaultExpr-clause-written t c = λ e turned by knows listed.
    let x = c.args.env.now.text.now in
    let ts = c.args.env.now.tokens.now in
    let is = rw c.in-Some-DefaultExpr.field-0-is at (c.in-Some-DefaultExpr.ensures.form x ts) in
    turns.module_as_item x ts by c.args.top c.args.out.now c.default_expr.new.out _ _ is
    (c.default_expr.ensures.written e turned is c.args.ranges.now c.args.top by knows listed)

pub exports::module_decl-returns-in-Some-Decl-clause-written :
    goal.exports::module_decl-returns-in-Some-Decl-clause-written
exports::module_decl-returns-in-Some-Decl-clause-written t c = λ e turned by knows listed.
    let x = c.args.env.now.text.now in
    let ts = c.args.env.now.tokens.now in
    let is = rw c.in-Some-Decl.field-0-is at (c.in-Some-Decl.ensures.form x ts) in
    turns.module_as_item x ts by c.args.top c.args.out.now c.export_decl.new.out _ _ is
    (c.export_decl.ensures.written e turned is by knows listed)

pub exports::module_decl-returns-in-None-clause-written : goal.exports::module_decl-returns-in-None-clause-written
exports::module_decl-returns-in-None-clause-written t c = λ e turned.
    c.import.ensures.written e turned

-- ---- defaults
pub defaults::defaulted-returns-in-Some-clause-written : goal.defaults::defaulted-returns-in-Some-clause-written
defaults::defaulted-returns-in-Some-clause-written t c = λ e by knows listed.
    let x = c.args.env.now.text.now in
    let ts = c.args.env.now.tokens.now in
    let f = c.close_group.ensures.before e in
    let g = c.close_node.ensures.before f in
    let h = c.default_decl.ensures.before g in
    let i = c.open-place.ensures.before h in
    exports.defaulted x ts by true c.in-Some.label c.args.out.now c.open-group.new.self c.open-place.new.self
    c.default_decl.new.out c.close_node.new.self c.close_group.new.self _ _ c.args.it.now.from c.args.it.now.to _
    (λ p. c.in-Some.ensures x ts (span_of ts c.args.it.now.from c.args.it.now.to) p) (c.open-group.ensures.written i)
    (c.open-group.ensures.place i) (c.open-place.ensures.written h) (c.open-place.ensures.place h)
    (c.open-place.ensures.state ∙ c.open-group.ensures.state) (c.default_decl.ensures.written g by knows listed)
    (c.close_node.ensures.written f) (c.close_group.ensures.written e)
    (c.close_group.ensures.state ∙ c.close_node.ensures.state)

pub defaults::default_function-returns-then-is_listed-clause-written :
    goal.defaults::default_function-returns-then-is_listed-clause-written
defaults::default_function-returns-then-is_listed-clause-written t c = λ e by knows listed.
    let x = c.args.env.now.text.now in
    let ts = c.args.env.now.tokens.now in
    exports.functions_dropped x ts by c.args.out.now c.dropped.new.self c.args.ranges.now
    (span_of ts c.args.it.now.from c.args.it.now.to) _ listed.are
    (ap (has_range c.args.ranges.now) (sym c.span_of.ensures) ∙ (c.is_listed.ensures ∙ c.if-is_listed.true))
    (c.dropped.ensures.written e x ts) c.dropped.ensures.state

pub defaults::default_function-returns-else-is_listed-clause-written :
    goal.defaults::default_function-returns-else-is_listed-clause-written
defaults::default_function-returns-else-is_listed-clause-written t c = λ e by knows listed.
    let x = c.args.env.now.text.now in
    let ts = c.args.env.now.tokens.now in
    exports.functions_kept x ts by c.args.out.now c.defaulted.new.out c.args.ranges.now
    (span_of ts c.args.it.now.from c.args.it.now.to) _ listed.are
    (ap (has_range c.args.ranges.now) (sym c.span_of.ensures) ∙ (c.is_listed.ensures ∙ c.if-is_listed.false))
    (c.defaulted.ensures.written e by knows listed)

pub defaults::export_default-returns-in-Function-clause-written :
    goal.defaults::export_default-returns-in-Function-clause-written
defaults::export_default-returns-in-Function-clause-written t c = λ e top by knows listed.
    let x = c.args.env.now.text.now in
    let ts = c.args.env.now.tokens.now in
    exports.functions_default x ts by top c.args.out.now c.default_function.new.out
    (span_of ts c.args.it.now.from c.args.it.now.to)
    (span_of ts c.args.inner.now.from c.args.inner.now.to) _ (rw c.in-Function.is at (c.sort_of.ensures x ts))
    (c.default_function.ensures.written e by knows listed)

pub defaults::export_default-returns-in-Type-clause-written :
    goal.defaults::export_default-returns-in-Type-clause-written
defaults::export_default-returns-in-Type-clause-written t c = λ e top by knows listed.
    let x = c.args.env.now.text.now in
    let ts = c.args.env.now.tokens.now in
    exports.type_default x ts by top c.args.out.now c.defaulted.new.out (span_of ts c.args.it.now.from c.args.it.now.to)
    (span_of ts c.args.inner.now.from c.args.inner.now.to) _ (rw c.in-Type.is at (c.sort_of.ensures x ts))
    (c.defaulted.ensures.written e by knows listed)

pub defaults::export_default-returns-in-Using-clause-written :
    goal.defaults::export_default-returns-in-Using-clause-written
defaults::export_default-returns-in-Using-clause-written t c = λ e top by knows listed.
    let x = c.args.env.now.text.now in
    let ts = c.args.env.now.tokens.now in
    exports.using_default x ts by top c.args.out.now c.defaulted-in-Using.new.out
    (span_of ts c.args.it.now.from c.args.it.now.to)
    (span_of ts c.args.inner.now.from c.args.inner.now.to) _ (rw c.in-Using.is at (c.sort_of.ensures x ts))
    (c.defaulted-in-Using.ensures.written e by knows listed)

pub defaults::export_default-returns-in-Other-clause-written :
    goal.defaults::export_default-returns-in-Other-clause-written
defaults::export_default-returns-in-Other-clause-written t c = λ e top by knows listed.
    let x = c.args.env.now.text.now in
    let ts = c.args.env.now.tokens.now in
    exports.other_default x ts by top c.args.out.now c.defaulted-in-Other.new.out
    (span_of ts c.args.it.now.from c.args.it.now.to)
    (span_of ts c.args.inner.now.from c.args.inner.now.to) _ (rw c.in-Other.is at (c.sort_of.ensures x ts))
    (c.defaulted-in-Other.ensures.written e by knows listed)

-- ---- declarations
pub decls::declarable-returns-in-Some-Function-clause-written :
    goal.decls::declarable-returns-in-Some-Function-clause-written
decls::declarable-returns-in-Some-Function-clause-written t c = λ e by knows listed.
    let x = c.args.env.now.text.now in
    let ts = c.args.env.now.tokens.now in
    same (IfChanged x ts by c.args.out.now c.typed_function.new.out (span_of ts c.args.it.now.from c.args.it.now.to))
    (declarable_in (valued x ts c.args.it.now)) _
    (rw c.in-Some-Function.field-0-is at (c.in-Some-Function.ensures.form x ts))
    (decls.typed_changed by x ts c.args.out.now c.typed_function.new.out _ _
    (c.typed_function.ensures.written e by knows))

pub decls::declarable-returns-in-Some-Interface-clause-written :
    goal.decls::declarable-returns-in-Some-Interface-clause-written
decls::declarable-returns-in-Some-Interface-clause-written t c = λ e by knows listed.
    let x = c.args.env.now.text.now in
    let ts = c.args.env.now.tokens.now in
    same (IfChanged x ts by c.args.out.now c.keep_there.new.self (span_of ts c.args.it.now.from c.args.it.now.to))
    (declarable_in (valued x ts c.args.it.now)) _
    (rw c.in-Some-Interface.field-0-is at (c.in-Some-Interface.ensures.form x ts))
    (decls.interface_unchanged by x ts c.args.out.now c.keep_there.new.self _ _ _ _ _)

pub decls::declarable-returns-in-Some-Alias-clause-written :
    goal.decls::declarable-returns-in-Some-Alias-clause-written
decls::declarable-returns-in-Some-Alias-clause-written t c = λ e by knows listed.
    let x = c.args.env.now.text.now in
    let ts = c.args.env.now.tokens.now in
    same (IfChanged x ts by c.args.out.now c.keep_there-in-Some-Alias.new.self
    (span_of ts c.args.it.now.from c.args.it.now.to)) (declarable_in (valued x ts c.args.it.now)) _
    (rw c.in-Some-Alias.field-0-is at (c.in-Some-Alias.ensures.form x ts))
    (decls.alias_unchanged by x ts c.args.out.now c.keep_there-in-Some-Alias.new.self _ _ _ _)

pub decls::declarable-returns-in_default-clause-written : goal.decls::declarable-returns-in_default-clause-written
decls::declarable-returns-in_default-clause-written t c = λ e by knows listed.
    let x = c.args.env.now.text.now in
    let ts = c.args.env.now.tokens.now in
    decls.block_changed by x ts c.args.out.now c.block.new.out _ _ (c.block.ensures.written e by knows listed)

pub decls::declared_node-returns-clause-written : goal.decls::declared_node-returns-clause-written
decls::declared_node-returns-clause-written t c = λ e by knows listed.
    let x = c.args.env.now.text.now in
    let ts = c.args.env.now.tokens.now in
    let f = c.close_node.ensures.before e in
    let g = c.declarable.ensures.before f in
    let h = c.drop_word.ensures.before g in
    decls.declared_node by x ts c.args.out.now c.open-place.new.self c.drop_word.new.out c.declarable.new.out
    c.close_node.new.self _ c.args.from c.args.to _ (valued x ts c.args.inner.now) (c.open-place.ensures.written h)
    (c.open-place.ensures.place h) (c.drop_word.ensures.written g x ts)
    (c.drop_word.ensures.state ∙ c.open-place.ensures.state) (c.declarable.ensures.written f by knows listed)
    (c.close_node.ensures.written e) c.close_node.ensures.state

pub decls::declared-returns-then-top-clause-written : goal.decls::declared-returns-then-top-clause-written
decls::declared-returns-then-top-clause-written t c = λ e by knows listed.
    let x = c.args.env.now.text.now in
    let ts = c.args.env.now.tokens.now in
    decls.stays_declared by x ts c.args.top c.args.out.now c.declared_node.new.out _ c.if-top.true
    (c.declared_node.ensures.written e by knows listed)

pub decls::declared-returns-else-top-clause-written : goal.decls::declared-returns-else-top-clause-written
decls::declared-returns-else-top-clause-written t c = λ e by knows listed.
    let x = c.args.env.now.text.now in
    let ts = c.args.env.now.tokens.now in
    let f = c.close.ensures.before e in
    let g = c.declared_node-else-top.ensures.before f in
    decls.cleared by x ts c.args.top c.args.out.now c.open-place.new.self c.declared_node-else-top.new.out
    c.close.new.self _
    c.args.from c.args.to _ c.if-top.false (c.open-place.ensures.written g) (c.open-place.ensures.place g)
    c.open-place.ensures.state (c.declared_node-else-top.ensures.written f by knows listed) (c.close.ensures.written e)
    c.close.ensures.state

pub decls::changed-returns-then-is_declarable-clause-written :
    goal.decls::changed-returns-then-is_declarable-clause-written
decls::changed-returns-then-is_declarable-clause-written t c = λ e by knows listed.
    let x = c.args.env.now.text.now in
    let ts = c.args.env.now.tokens.now in
    decls.declarable_changed by x ts c.args.out.now c.declarable.new.out _ _ _
    (c.is_declarable.ensures c.if-is_declarable.true x ts) (c.declarable.ensures.written e by knows listed)

pub decls::undeclared-returns-clause-written : goal.decls::undeclared-returns-clause-written
decls::undeclared-returns-clause-written t c = λ e by knows listed.
    let x = c.args.env.now.text.now in
    let ts = c.args.env.now.tokens.now in
    let f = c.close.ensures.before e in
    let g = c.changed.ensures.before f in
    decls.form_made by x ts c.args.top c.args.out.now c.open-place.new.self c.changed.new.out c.close.new.self _
    c.args.it.now.from c.args.it.now.to c.declare_form-form.result _ c.declare_form-form.ensures
    (c.open-place.ensures.written g) (c.open-place.ensures.place g) c.open-place.ensures.state
    (c.changed.ensures.written f by knows listed) (c.close.ensures.written e) c.close.ensures.state

pub decls::decl-returns-in-Some-Declared-clause-written : goal.decls::decl-returns-in-Some-Declared-clause-written
decls::decl-returns-in-Some-Declared-clause-written t c = λ e by knows listed.
    let x = c.args.env.now.text.now in
    let ts = c.args.env.now.tokens.now in
    same (Unless by (DeclPuts x ts by c.args.top c.args.out.now c.declared.new.out))
    (decl_in (valued x ts c.args.it.now)) _
    (decls.declared_form by x ts (decl_in (valued x ts c.args.it.now)) _ _
    (rw c.in-Some-Declared.field-0-is at (c.in-Some-Declared.ensures.form x ts)))
    (c.declared.ensures.written e by knows listed)

pub decls::decl-returns-in-Some-DeclaredVariables-clause-written :
    goal.decls::decl-returns-in-Some-DeclaredVariables-clause-written
decls::decl-returns-in-Some-DeclaredVariables-clause-written t c = λ e by knows listed.
    let x = c.args.env.now.text.now in
    let ts = c.args.env.now.tokens.now in
    same (Unless by (DeclPuts x ts by c.args.top c.args.out.now c.declared_variables.new.out))
    (decl_in (valued x ts c.args.it.now)) _
    (decls.declared_variables_form by x ts (decl_in (valued x ts c.args.it.now)) _ _
    (rw c.in-Some-DeclaredVariables.field-0-is at (c.in-Some-DeclaredVariables.ensures.form x ts)))
    (c.declared_variables.ensures.written e by knows)

pub decls::default_declarable-returns-in-Some-Function-clause-written :
    goal.decls::default_declarable-returns-in-Some-Function-clause-written
decls::default_declarable-returns-in-Some-Function-clause-written t c = λ e by knows listed.
    let x = c.args.env.now.text.now in
    let ts = c.args.env.now.tokens.now in
    same (BlockDefaulted x ts by c.args.out.now c.typed_function.new.out
    (span_of ts c.args.it.now.from c.args.it.now.to)) (declarable_in (valued x ts c.args.it.now)) _
    (rw c.in-Some-Function.field-0-is at (c.in-Some-Function.ensures.form x ts))
    (decls.typed_defaulted by x ts c.args.out.now c.typed_function.new.out _ _
    (c.typed_function.ensures.written e by knows))

pub decls::default_declarable-returns-in-Some-Interface-clause-written :
    goal.decls::default_declarable-returns-in-Some-Interface-clause-written
decls::default_declarable-returns-in-Some-Interface-clause-written t c = λ e by knows listed.
    let x = c.args.env.now.text.now in
    let ts = c.args.env.now.tokens.now in
    decls.kept_default by x ts c.args.out.now c.keep_there.new.self _ (valued x ts c.args.it.now) _
    (rw c.in-Some-Interface.field-0-is at (c.in-Some-Interface.ensures.form x ts)) (c.requires.is x ts)
    (decls.interface_kept by x ts _ _ _ _) (c.keep_there.ensures.written e x ts) c.keep_there.ensures.state

pub decls::default_declarable-returns-in-Some-Alias-clause-written :
    goal.decls::default_declarable-returns-in-Some-Alias-clause-written
decls::default_declarable-returns-in-Some-Alias-clause-written t c = λ e by knows listed.
    let x = c.args.env.now.text.now in
    let ts = c.args.env.now.tokens.now in
    decls.kept_default by x ts c.args.out.now c.keep_there-in-Some-Alias.new.self _ (valued x ts c.args.it.now) _
    (rw c.in-Some-Alias.field-0-is at (c.in-Some-Alias.ensures.form x ts)) (c.requires.is x ts)
    (decls.alias_kept by x ts _ _ _) (c.keep_there-in-Some-Alias.ensures.written e x ts)
    c.keep_there-in-Some-Alias.ensures.state

pub decls::default_declarable-returns-in_default-clause-written :
    goal.decls::default_declarable-returns-in_default-clause-written
decls::default_declarable-returns-in_default-clause-written t c = λ e by knows listed.
    let x = c.args.env.now.text.now in
    let ts = c.args.env.now.tokens.now in
    decls.block_defaulted by x ts c.args.out.now c.block.new.out _ _ (c.block.ensures.written e by knows listed)

pub decls::default_decl-returns-then-is_declarable-clause-written :
    goal.decls::default_decl-returns-then-is_declarable-clause-written
decls::default_decl-returns-then-is_declarable-clause-written t c = λ e by knows listed.
    let x = c.args.env.now.text.now in
    let ts = c.args.env.now.tokens.now in
    decls.declarable_defaulted by x ts c.args.out.now c.default_declarable.new.out _ _ _
    (c.is_declarable.ensures c.if-is_declarable.true x ts) (c.default_declarable.ensures.written e by knows listed)

-- ---- namespaces
pub blocks::inside-returns-clause-written : goal.blocks::inside-returns-clause-written
blocks::inside-returns-clause-written t c = λ e by knows listed.
    let x = c.args.env.now.text.now in
    let ts = c.args.env.now.tokens.now in
    let f = c.close_group.ensures.before e in
    let g = c.items.ensures.before f in
    blocks.inside_made by x ts c.args.out.now c.open-group.new.self c.items.new.out c.close_group.new.self _ _
    (c.open-group.ensures.written g) (c.open-group.ensures.place g) c.open-group.ensures.state
    (c.items.ensures.items f by knows listed) (c.close_group.ensures.written e) c.close_group.ensures.state

pub blocks::namespace_node-returns-clause-written : goal.blocks::namespace_node-returns-clause-written
blocks::namespace_node-returns-clause-written t c = λ e by knows listed.
    let x = c.args.env.now.text.now in
    let ts = c.args.env.now.tokens.now in
    let f = c.close_node.ensures.before e in
    let g = c.inside.ensures.before f in
    let h = c.outer_name.ensures.before g in
    let i = c.token.ensures.before h in
    blocks.namespace_made by x ts c.args.out.now c.open-place.new.self c.token.new.self c.outer_name.new.out
    c.inside.new.out c.close_node.new.self _ c.args.from c.args.to c.args.word (valued x ts c.args.name.now)
    (held x ts c.args.body.now.entries.now) (c.open-place.ensures.written i) (c.open-place.ensures.place i)
    (c.token.ensures.written h x ts) (c.outer_name.ensures.written g x by)
    (c.outer_name.ensures.state ∙ (c.token.ensures.state ∙ c.open-place.ensures.state))
    (c.inside.ensures.written f by knows listed) (c.close_node.ensures.written e) c.close_node.ensures.state

pub blocks::module_node-returns-clause-written : goal.blocks::module_node-returns-clause-written
blocks::module_node-returns-clause-written t c = λ e by knows listed.
    let x = c.args.env.now.text.now in
    let ts = c.args.env.now.tokens.now in
    let f = c.close_node.ensures.before e in
    let g = c.close_group.ensures.before f in
    let h = c.inside.ensures.before g in
    let i = c.open-group.ensures.before h in
    let j = c.keep_there.ensures.before i in
    blocks.module_made by x ts c.args.out.now c.open-place.new.self c.keep_there.new.self c.open-group.new.self
    c.inside.new.out c.close_group.new.self c.close_node.new.self _ _ c.args.from c.args.to
    (valued x ts c.args.name.now) (held x ts c.args.body.now.entries.now) (c.open-place.ensures.written j)
    (c.open-place.ensures.place j) (c.keep_there.ensures.written i x ts) (c.open-group.ensures.written h)
    (c.open-group.ensures.place h)
    (c.open-group.ensures.state ∙ (c.keep_there.ensures.state ∙ c.open-place.ensures.state))
    (c.inside.ensures.written g by knows listed) (c.close_group.ensures.written f) (c.close_node.ensures.written e)
    (c.close_node.ensures.state ∙ c.close_group.ensures.state)

pub blocks::module-returns-in-Some-clause-written : goal.blocks::module-returns-in-Some-clause-written
blocks::module-returns-in-Some-clause-written t c = λ e is by knows listed.
    let x = c.args.env.now.text.now in
    let ts = c.args.env.now.tokens.now in
    same (Declares x ts by c.args.out.now c.module_node.new.out (span_of ts c.args.it.now.from c.args.it.now.to))
    (declarable_in (valued x ts c.args.it.now)) _ is (c.module_node.ensures.written e by knows listed)

pub blocks::module-returns-then-is_declarable-clause-written :
    goal.blocks::module-returns-then-is_declarable-clause-written
blocks::module-returns-then-is_declarable-clause-written t c = λ e is by knows listed.
    let x = c.args.env.now.text.now in
    let ts = c.args.env.now.tokens.now in
    blocks.module_kept by x ts c.args.out.now c.keep_there.new.self _ (valued x ts c.args.it.now)
    (valued x ts c.args.name.now) (held x ts c.args.body.now.entries.now) is (c.in-None.ensures.value x ts)
    (c.is_declarable.ensures c.if-is_declarable.true x ts) (c.keep_there.ensures.written e x ts)
    c.keep_there.ensures.state

pub blocks::global_node-returns-clause-written : goal.blocks::global_node-returns-clause-written
blocks::global_node-returns-clause-written t c = λ e by knows listed.
    let x = c.args.env.now.text.now in
    let ts = c.args.env.now.tokens.now in
    let f = c.close_node.ensures.before e in
    let g = c.inside.ensures.before f in
    blocks.global_made by x ts c.args.out.now c.open-place.new.self c.inside.new.out c.close_node.new.self _
    c.args.from c.args.to (held x ts c.args.body.now.entries.now) (c.open-place.ensures.written g)
    (c.open-place.ensures.place g) c.open-place.ensures.state (c.inside.ensures.written f by knows listed)
    (c.close_node.ensures.written e) c.close_node.ensures.state

pub blocks::block-returns-in-Some-Enum-clause-written : goal.blocks::block-returns-in-Some-Enum-clause-written
blocks::block-returns-in-Some-Enum-clause-written t c = λ e by knows listed.
    c.enum_declaration.ensures.written e c.args.env.now.text.now by

pub blocks::block-returns-in-Some-Namespace-clause-written :
    goal.blocks::block-returns-in-Some-Namespace-clause-written
blocks::block-returns-in-Some-Namespace-clause-written t c = λ e by knows listed.
    let x = c.args.env.now.text.now in
    let ts = c.args.env.now.tokens.now in
    same (Declares x ts by c.args.out.now c.namespace_node.new.out (span_of ts c.args.it.now.from c.args.it.now.to))
    (declarable_in (valued x ts c.args.it.now)) _
    (rw c.in-Some-Namespace.field-0-is at (c.in-Some-Namespace.ensures.form x ts))
    (c.namespace_node.ensures.written e by knows listed)

pub blocks::block-returns-in-Some-Module-clause-written : goal.blocks::block-returns-in-Some-Module-clause-written
blocks::block-returns-in-Some-Module-clause-written t c = λ e by knows listed.
    let x = c.args.env.now.text.now in
    let ts = c.args.env.now.tokens.now in
    c.module.ensures.written e (rw c.in-Some-Module.field-0-is at (c.in-Some-Module.ensures.form x ts)) by knows listed

pub blocks::block-returns-in-Some-Global-clause-written : goal.blocks::block-returns-in-Some-Global-clause-written
blocks::block-returns-in-Some-Global-clause-written t c = λ e by knows listed.
    let x = c.args.env.now.text.now in
    let ts = c.args.env.now.tokens.now in
    same (Declares x ts by c.args.out.now c.global_node.new.out (span_of ts c.args.it.now.from c.args.it.now.to))
    (declarable_in (valued x ts c.args.it.now)) _
    (rw c.in-Some-Global.field-0-is at (c.in-Some-Global.ensures.form x ts))
    (c.global_node.ensures.written e by knows listed)
