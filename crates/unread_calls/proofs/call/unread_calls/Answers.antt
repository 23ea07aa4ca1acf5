use Rattle.std.proofs.Common.{◌∙◌, sym, ap, ◌++◌}
use Rattle.std.specs.Prelude.{option_to_list}
use Rattle.unread_calls.specs.Unread.{unread_at}
use Rattle.unread_calls.proofs.CallsLemmas.{one_more}
use Rattle.unread_calls.proofs.call.unread_calls.Goals as goal

-- the call of one more word
pub loop-i-preserved : goal.loop-i-preserved
loop-i-preserved c =
    let f = unread_at c.args.tokens.now in
    c.in_ok-add_unread.ensures ∙ ap (λ calls. calls ++ option_to_list (f c.loop-i.i)) c.loop-i.invariant
    ∙ sym (one_more f c.loop-i.i)
