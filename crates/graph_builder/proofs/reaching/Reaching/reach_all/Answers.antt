use Rattle.std.proofs.Common.{◌∙◌, ap, take, ◌∷◌, [], ◌+◌, List}
use Rattle.graph_entry.specs.Specifier.{text_of}
use Rattle.graph_builder.specs.Reach.{Specifier, has}
use Rattle.graph_builder.specs.Graph.{texts}
use Rattle.graph_builder.proofs.ReachingLemmas.{reached_more, grows_err, texts_more, has_texts_take}
use Rattle.graph_builder.proofs.reaching.Reaching.reach_all.Goals as goal

-- those so far and the next one are the first of the list
pub returns-in-Err-clause-grows : goal.returns-in-Err-clause-grows
returns-in-Err-clause-grows c =
    let more = texts_more c.args.urls.now c.loop-url.url-index c.url-item.result c.loop-url-test.true c.url-item.is in
    grows_err (texts (take c.loop-url.url-index c.args.urls.now)) (text_of c.url-item.result ∷ [])
    (texts c.args.urls.now)
    c.args.self.now c.loop-url.self c.reach.new.self c.in-Err.error c.loop-url.invariant.reached
    c.loop-url.invariant.limit
    (λ t h. has_texts_take c.args.urls.now (c.loop-url.url-index + 1) t
    (ap (λ (xs : List Specifier). has xs t) more ∙ h))
    c.in-Err.ensures.grows

pub loop-url-preserved : goal.loop-url-preserved
loop-url-preserved c =
    let more = texts_more c.args.urls.now c.loop-url.url-index c.url-item.result c.loop-url-test.true c.url-item.is in
    record {
      reached = rw more
          (reached_more (texts (take c.loop-url.url-index c.args.urls.now)) (text_of c.url-item.result ∷ [])
          c.args.self.now c.loop-url.self c.reach.new.self c.loop-url.invariant.reached c.in-Ok.ensures.grows);
      limit = c.in-Ok.ensures.limit ∙ c.loop-url.invariant.limit;
    }
