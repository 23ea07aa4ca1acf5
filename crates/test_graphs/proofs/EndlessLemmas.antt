-- What a request and an answer do to the data of a loader that never runs out.
use Rattle.std.proofs.Common.{◌≡◌, ◌++◌, ◌∷◌, [], List, ◌∙◌, refl, sym, ap, Ok, Err, arith}
use Rattle.std.specs.declared.alloc.AllocError.{AllocError}
use Rattle.std.proofs.lemmas.List.{map-append}
use Rattle.url.specs.Parts.{Parts}
use Rattle.graph_entry.specs.declared.answer.LoadAnswer.{LoadAnswer}
use Rattle.graph_entry.specs.Specifier.{text_of}
use Rattle.graph_builder.specs.declared.loader.LoaderPoll.TheVariants.{Answer}
use Rattle.graph_builder.specs.Events.{Event}
use Rattle.graph_builder.specs.Loader.{LoaderData, HasStarted, HasPolled}
use Rattle.test_graphs.specs.declared.endless.Happening.{Happening}
use Rattle.test_graphs.specs.declared.endless.Happening.TheVariants as happening
use Rattle.test_graphs.specs.Endless.{event_of, data_of}

more : (old new : List (Happening × Unit {0})) (h : Happening) → new ≡ old ++ (h, tt) ∷ []
    → (data_of new).events ≡ (data_of old).events ++ event_of h ∷ []
more old new h is =
    ap (λ (l : List (Happening × Unit {0})). (data_of l).events) is
    ∙ map-append (λ (e : Happening × Unit {0}). event_of e.0) old ((h, tt) ∷ [])

pub started : (old new : List (Happening × Unit {0})) (url : Parts) → new ≡ old ++ (happening.Asked url, tt) ∷ []
    → HasStarted (text_of url) (data_of old) (data_of new) (Ok tt)
started old new url is = record {
  events = more old new (happening.Asked url) is;
  pending = refl;
  standing = refl;
  patience = tt;
  told = refl;
  fair = λ h. absurd cc;
}

pub unstarted : (old : List (Happening × Unit {0})) (url : Parts) (e : AllocError)
    → HasStarted (text_of url) (data_of old) (data_of old) (Err e)
unstarted old url e = record {
  events = refl;
  pending = refl;
  standing = refl;
  patience = tt;
  told = refl;
  fair = λ h. absurd cc;
}

pub polled : (old new : List (Happening × Unit {0})) (url : Parts) (answer : LoadAnswer)
    → new ≡ old ++ (happening.Answered url answer, tt) ∷ []
    → HasPolled (data_of old) (data_of new) (Ok (Answer url answer))
polled old new url answer is = record {
  events = more old new (happening.Answered url answer) is;
  pending = refl;
  standing = refl;
  patience = record { no_more = tt; falls = λ h less. tt };
  told = refl;
  as_told = λ b h. absurd cc;
  fair = λ h. absurd cc;
}

pub unpolled : (old : List (Happening × Unit {0})) (e : AllocError)
    → HasPolled (data_of old) (data_of old) (Err e)
unpolled old e = record {
  events = refl;
  pending = omega arith;
  standing = refl;
  patience = record { no_more = tt; falls = λ h less. tt };
  told = refl;
  as_told = tt;
  fair = λ h. absurd cc;
}
