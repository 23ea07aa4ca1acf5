use Rattle.std.proofs.Common.{lit<}
use Rattle.std.proofs.lemmas.Str.Pattern.{strip_prefix_char}
use Rattle.file_url.proofs.FrontLemmas.{after_slash, has_slash}
use Rattle.file_url.proofs.windows.below_root.Goals as goal

pub returns-in-Some : goal.returns-in-Some
returns-in-Some c =
    let found = strip_prefix_char 47 c.args.path.now c.strip_prefix.result c.strip_prefix.ensures.cases (lit< tt) in
    after_slash _ _ (rw c.in-Some.is at found)

-- the path begins with a slash
pub returns-in-None : goal.returns-in-None
returns-in-None c =
    let lacks = strip_prefix_char 47 c.args.path.now c.strip_prefix.result c.strip_prefix.ensures.cases (lit< tt) in
    absurd (has_slash _ c.requires (rw c.in-None.is at lacks))
