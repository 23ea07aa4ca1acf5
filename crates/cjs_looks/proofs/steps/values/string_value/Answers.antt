use Rattle.std.proofs.Common.{sym}
use Rattle.cjs_looks.proofs.steps.values.string_value.Goals as goal

-- each token cuts the text
pub cut-requires : goal.cut-requires
cut-requires c = c.requires c.args.at c.in-Some.token (sym c.in-Some.ensures)
