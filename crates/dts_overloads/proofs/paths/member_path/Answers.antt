use Rattle.std.specs.Prelude.{slice_get}
use Rattle.dts_overloads.proofs.PathLemmas.{follows_name}
use Rattle.dts_overloads.proofs.paths.member_path.Goals as goal

pub returns : goal.returns
returns c = λ r.
    follows_name c.args.text.now r (slice_get c.args.tokens.now c.args.at) c.in_ok-name.name c.args.names
    c.in_ok-new.new c.if-is_kind.ensures c.in_ok-name.ensures c.in_ok-new.ensures
