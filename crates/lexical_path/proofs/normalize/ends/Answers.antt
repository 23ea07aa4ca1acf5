use Rattle.std.proofs.lemmas.Str.Pattern.{ends_text}
use Rattle.lexical_path.proofs.normalize.ends.Goals as goal

pub returns : goal.returns
returns c = ends_text _ c.args.back.now c.args.path.now c.ends_with.ensures.cases
