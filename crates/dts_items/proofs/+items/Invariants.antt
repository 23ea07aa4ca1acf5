-- Items go down by the entries below; what is left of a list leads to what the whole does.
use Rattle.std.specs.Prelude.{List}
use Rattle.std.proofs.Common.{◌≡◌, ◌≤◌, ℕ, length, ◌+◌, ◌*◌, false}
use Rattle.es_lowering.specs.Value.{item_at, stmt_at}
use Rattle.es_syntax.specs.Held.{held}
use Rattle.dts_rules.specs.Rules as rules
use Rattle.dts_rules.specs.Programs.{shown_item}
use Rattle.dts_names.specs.Names.{Knows}
use Rattle.dts_members.specs.Overloads.{Overloads}
use Rattle.dts_items.specs.Items.{item_turn, stmt_turn}
use Rattle.dts_items.proofs.TurnLemmas.{stmt_list, AllLeft}
use Rattle.dts_items.proofs.+items.Given as goal

-- ---- items
abbrev pub decreases-items::items : goal.decreases-items::items
decreases-items::items l = 16 * length l.body.now.entries.now

abbrev pub invariant-items::items-loop-turn : goal.invariant-items::items-loop-turn
invariant-items::items-loop-turn l =
    (l.out.failed ≡ false → l.initial.out.failed ≡ false)
    × (length l.row.entries.now ≤ length l.body.entries.now)
    × (l.out.failed ≡ false → (by : rules.Env) → Knows l.env by → Overloads l.ranges by
    → AllLeft l.env.text.now l.env.tokens.now item_turn (λ it. shown_item by it l.top) (λ turn. item_at turn 0)
    l.initial.out l.out (held l.env.text.now l.env.tokens.now l.body.entries.now)
    (held l.env.text.now l.env.tokens.now l.row.entries.now))
    × (l.out.failed ≡ false → (by : rules.Env) → Knows l.env by → Overloads l.ranges by
    → AllLeft l.env.text.now l.env.tokens.now stmt_turn (stmt_list l.env.text.now l.env.tokens.now by l.top)
    (λ turn. stmt_at turn 0) l.initial.out l.out (held l.env.text.now l.env.tokens.now l.body.entries.now)
    (held l.env.text.now l.env.tokens.now l.row.entries.now))

abbrev pub decreases-items::items-loop-turn : goal.decreases-items::items-loop-turn
decreases-items::items-loop-turn l = length l.row.entries.now

abbrev pub decreases-items::item_turn : goal.decreases-items::item_turn
decreases-items::item_turn l = 16 * length l.turn.now.parts.entries.now + 1

abbrev pub decreases-items::item : goal.decreases-items::item
decreases-items::item l = 16 * length l.it.now.parts.entries.now + 15

abbrev pub decreases-exports::module_decl : goal.decreases-exports::module_decl
decreases-exports::module_decl l = 16 * length l.it.now.parts.entries.now + 14

abbrev pub decreases-stmts::stmt : goal.decreases-stmts::stmt
decreases-stmts::stmt l = 16 * length l.it.now.parts.entries.now + 14

abbrev pub decreases-stmts::decl_stmt : goal.decreases-stmts::decl_stmt
decreases-stmts::decl_stmt l = 16 * length l.it.now.parts.entries.now + 13

abbrev pub decreases-stmts::function_stmt : goal.decreases-stmts::function_stmt
decreases-stmts::function_stmt l = 16 * length l.it.now.parts.entries.now + 12

abbrev pub decreases-stmts::decl_turn : goal.decreases-stmts::decl_turn
decreases-stmts::decl_turn l = 16 * length l.it.now.parts.entries.now + 11

abbrev pub decreases-exports::export_decl : goal.decreases-exports::export_decl
decreases-exports::export_decl l = 16 * length l.inner.now.parts.entries.now + 13

abbrev pub decreases-exports::exported_function : goal.decreases-exports::exported_function
decreases-exports::exported_function l = 16 * length l.inner.now.parts.entries.now + 12

abbrev pub decreases-exports::exported : goal.decreases-exports::exported
decreases-exports::exported l = 16 * length l.inner.now.parts.entries.now + 11

abbrev pub decreases-defaults::export_default : goal.decreases-defaults::export_default
decreases-defaults::export_default l = 16 * length l.inner.now.parts.entries.now + 13

abbrev pub decreases-defaults::default_function : goal.decreases-defaults::default_function
decreases-defaults::default_function l = 16 * length l.inner.now.parts.entries.now + 12

abbrev pub decreases-defaults::defaulted : goal.decreases-defaults::defaulted
decreases-defaults::defaulted l = 16 * length l.inner.now.parts.entries.now + 11

-- ---- declarations
abbrev pub decreases-decls::decl : goal.decreases-decls::decl
decreases-decls::decl l = 16 * length l.it.now.parts.entries.now + 10

abbrev pub decreases-decls::default_decl : goal.decreases-decls::default_decl
decreases-decls::default_decl l = 16 * length l.it.now.parts.entries.now + 10

-- ---- declarations, inside
abbrev pub decreases-decls::undeclared : goal.decreases-decls::undeclared
decreases-decls::undeclared l = 16 * length l.it.now.parts.entries.now + 7

abbrev pub decreases-decls::changed : goal.decreases-decls::changed
decreases-decls::changed l = 16 * length l.it.now.parts.entries.now + 6

abbrev pub decreases-decls::declared : goal.decreases-decls::declared
decreases-decls::declared l = 16 * length l.inner.now.parts.entries.now + 7

abbrev pub decreases-decls::declared_node : goal.decreases-decls::declared_node
decreases-decls::declared_node l = 16 * length l.inner.now.parts.entries.now + 6

abbrev pub decreases-decls::declarable : goal.decreases-decls::declarable
decreases-decls::declarable l = 16 * length l.it.now.parts.entries.now + 5

abbrev pub decreases-decls::default_declarable : goal.decreases-decls::default_declarable
decreases-decls::default_declarable l = 16 * length l.it.now.parts.entries.now + 5

-- ---- namespaces
abbrev pub decreases-blocks::block : goal.decreases-blocks::block
decreases-blocks::block l = 16 * length l.it.now.parts.entries.now + 4

abbrev pub decreases-blocks::module : goal.decreases-blocks::module
decreases-blocks::module l = 16 * length l.body.now.entries.now + 3

abbrev pub decreases-blocks::module_node : goal.decreases-blocks::module_node
decreases-blocks::module_node l = 16 * length l.body.now.entries.now + 2

abbrev pub decreases-blocks::namespace_node : goal.decreases-blocks::namespace_node
decreases-blocks::namespace_node l = 16 * length l.body.now.entries.now + 2

abbrev pub decreases-blocks::global_node : goal.decreases-blocks::global_node
decreases-blocks::global_node l = 16 * length l.body.now.entries.now + 2

abbrev pub decreases-blocks::inside : goal.decreases-blocks::inside
decreases-blocks::inside l = 16 * length l.body.now.entries.now + 1
