use Rattle.dts_member_keys.proofs.LookLemmas.{known_is}
use Rattle.dts_member_keys.proofs.symbols.is_known.Goals as goal

pub returns : goal.returns
returns c =
    known_is c.args.name.now c.is_async_symbol-begins.result c.is_matching_symbol-matches.result
    c.is_text_symbol-texts.result c.is_value_symbol-values.result _ _ _ c.is_async_symbol-begins.ensures
    c.is_matching_symbol-matches.ensures c.is_text_symbol-texts.ensures c.is_value_symbol-values.ensures
    c.either-last.ensures c.either-others.ensures c.either.ensures
