use Rattle.dts_overloads.proofs.StmtHeads.{item_declared}
use Rattle.dts_overloads.proofs.heads.item_by.Goals as goal

pub returns-then-is_declaration : goal.returns-then-is_declaration
returns-then-is_declaration c =
    item_declared c.args.text.now c.args.tokens.now c.args.it.now c.args.label c.requires.node c.in_ok-head.head
    c.span_of.result c.if-is_declaration.ensures c.span_of.ensures c.in_ok-head.ensures
