use Rattle.std.proofs.Common.{◌≤◌, length, arith}
use Rattle.es_rules.specs.Steps.{keys_in}
use Rattle.es_type_rules.specs.ends.Kept.{kept_at}
use Rattle.es_type_rules.specs.ends.Angles.{is_kept}
use Rattle.es_lookahead.proofs.TokenLemmas.{length-keys_of}
use Rattle.es_type_rules.proofs.ends_lemmas.AngleLemmas.{most, end_found, end_missing, silent_nothing}
use Rattle.es_type_rules.proofs.ends.kept.end_at.Goals as goal

-- it is read
pub returns-in-Ok : goal.returns-in-Ok
returns-in-Ok c =
    let long = length-keys_of c.args.input.tokens.tokens.now in
    let at_most : c.args.at ≤ length c.args.input.tokens.tokens.now = c.requires.place in
    let place : c.args.at ≤ length (keys_in c.args.input) = omega (arith, long) in
    end_found (keys_in c.args.input) c.args.angles.now c.args.row c.args.at place 501 c.in-Ok.ensures.0 c.in-Ok.height
    c.read_kept.new.cursor.at most c.in-Ok.ensures.2

-- it isn't
pub returns : goal.returns
returns c =
    let K = keys_in c.args.input in
    let long = length-keys_of c.args.input.tokens.tokens.now in
    let at_most : c.args.at ≤ length c.args.input.tokens.tokens.now = c.requires.place in
    let place : c.args.at ≤ length K = omega (arith, long) in
    end_missing K c.args.angles.now c.args.row c.args.at place 501 most
    (silent_nothing c.args.input.keeps (kept_at K (is_kept c.args.angles.now) 501 c.args.row c.args.at)
    _ c.requires.silent c.in-Err.ensures.1)
