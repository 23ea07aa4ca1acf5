use Rattle.std.proofs.Common.{◌≡◌, sym, ap, ap₂, subst, ◌∙◌}
use Rattle.std.specs.Path.{HasNoSlash, path_set_extension}
use Rattle.deno_path_util.specs.Atomic.{atomic_path, temporary_end}
use Rattle.deno_path_util.proofs.PathLemmas.{end_no_slash, no_slash_fact}
use Rattle.deno_path_util.proofs.temporary.beside.Goals as goal

pub set_extension-requires : goal.set_extension-requires
set_extension-requires c =
    subst HasNoSlash (sym (c.as_str.ensures.value ∙ c.in_ok-end.ensures))
    (no_slash_fact (temporary_end c.args.bytes.now) (end_no_slash c.args.bytes.now))

pub returns : goal.returns
unfolding atomic_path
returns c =
    c.into_string.ensures ∙ c.in_ok-set_extension.ensures.ok
    ∙ ap₂ path_set_extension (c.in_ok-temporary.ensures ∙ c.new.ensures) (c.as_str.ensures.value ∙ c.in_ok-end.ensures)
