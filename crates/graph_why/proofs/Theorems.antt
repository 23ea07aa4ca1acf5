-- An entry is gone without another one, or without an edge, just where all paths to it go over that.
use Rattle.std.proofs.Common.{◌≡◌, Bool, true, false, not, List, [], ◌∷◌, refl, sym, ◌∙◌, ap, Some, None}
use Rattle.std.specs.Prelude.{◌||◌}
use Rattle.std.specs.List.{AllByRecursion, list_any}
use Rattle.std.proofs.lemmas.Bool.{false≢true}
use Rattle.graph_builder.specs.declared.following.Following.{Following}
use Rattle.graph_builder.specs.Rules.{Specifier}
use Rattle.graph_builder.specs.Graph.{GraphData}
use Rattle.graph_why.specs.declared.step.Without.{Without}
use Rattle.graph_why.specs.Why.{Step, keeps_start, keeps, IsPath, IsReached, IsGone}
use Rattle.graph_why.specs.Over.{goes_over}

-- what goes over nothing is kept
kept_of : (w : Without) (path : List Step) → list_any (λ e. not (keeps (Some w) e)) path ≡ false
    → AllByRecursion (λ e. keeps (Some w) e ≡ true) path
kept_of w [] h = tt
kept_of w (e ∷ rest) h = by (keeps (Some w) e) refl h (kept_of w rest)
  where
    by : (b : Bool) → keeps (Some w) e ≡ b → (not b || list_any (λ e. not (keeps (Some w) e)) rest) ≡ false
        → (list_any (λ e. not (keeps (Some w) e)) rest ≡ false → AllByRecursion (λ e. keeps (Some w) e ≡ true) rest)
        → AllByRecursion (λ e. keeps (Some w) e ≡ true) (e ∷ rest)
    by true is h on = (is, on h)
    by false is h on = absurd (false≢true (sym h))

-- and the other way round
none_over : (w : Without) (path : List Step) → AllByRecursion (λ e. keeps (Some w) e ≡ true) path
    → list_any (λ e. not (keeps (Some w) e)) path ≡ false
none_over w [] k = refl
none_over w (e ∷ rest) k =
    ap (λ b. not b || list_any (λ e. not (keeps (Some w) e)) rest) k.0 ∙ none_over w rest k.1

all_kept : (path : List Step) → AllByRecursion (λ e. keeps None e ≡ true) path
all_kept [] = tt
all_kept (e ∷ rest) = (refl, all_kept rest)

module _ (g : GraphData) (f : Following) (w : Without) (s : Specifier) where
  -- all paths to the entry go over it
  abbrev pub AllOver : Type 0
  AllOver = (path : List Step) (q : IsPath g f None path s) → goes_over w q.start path ≡ true

  pub all_over : IsGone g f w s → AllOver
  all_over gone path q = by (keeps_start (Some w) q.start) refl (list_any (λ e. not (keeps (Some w) e)) path) refl
    where
      by : (a : Bool) → keeps_start (Some w) q.start ≡ a → (b : Bool)
          → list_any (λ e. not (keeps (Some w) e)) path ≡ b → (not a || b) ≡ true
      by false a_is b b_is = refl
      by true a_is true b_is = refl
      by true a_is false b_is = absurd (gone.gone (record {
        path = path;
        is = record {
          start = q.start;
          among = q.among;
          held = q.held;
          begins = a_is;
          chain = q.chain;
          kept = kept_of w path b_is;
        };
      }))

  pub gone_if : IsReached g f None s → AllOver → IsGone g f w s
  gone_if reached all = record {
    reached = reached;
    gone = λ r.
        let yes = all r.path (record {
          start = r.is.start;
          among = r.is.among;
          held = r.is.held;
          begins = refl;
          chain = r.is.chain;
          kept = all_kept r.path;
        }) in
        false≢true
        (sym (ap (λ b. not b || list_any (λ e. not (keeps (Some w) e)) r.path) r.is.begins
        ∙ none_over w r.path r.is.kept) ∙ yes);
  }
