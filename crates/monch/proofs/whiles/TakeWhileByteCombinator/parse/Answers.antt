use Rattle.monch.proofs.FrontLemmas.{IsPassingBytes-front}
use Rattle.monch.proofs.whiles.TakeWhileByteCombinator.parse.Goals as goal

-- what was taken is the front that passed
pub returns : goal.returns
returns g c = IsPassingBytes-front _ _ _ _ _ c.taken.ensures c.behind_passing_bytes-rest.ensures.1
