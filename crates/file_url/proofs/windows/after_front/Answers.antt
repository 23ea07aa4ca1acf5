use Rattle.file_url.proofs.FrontLemmas.{after_text}
use Rattle.file_url.proofs.windows.after_front.Goals as goal

pub returns : goal.returns
returns c = after_text c.args.text.now c.args.front.now c.strip_prefix.result c.strip_prefix.ensures.cases
