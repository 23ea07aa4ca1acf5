-- What an iterator over comments has still to give.
use Rattle.std.specs.Prelude.{List, ◌++◌, Vec}
use Rattle.std.specs.List.{flat_map}
use Rattle.std.specs.Slice.Iter.{iter_rest}
use Rattle.es_token.specs.declared.token.Comment.{Comment}
use Rattle.es_comments.specs.declared.shared.CommentsIter.{CommentsIter}

-- the comments of lists, one list behind the other
abbrev pub joined : {A : Type 0} → List (Vec Comment A) → List Comment
joined lists = flat_map (λ v. v.items) lists

-- the comments that are still to come
abbrev pub comments_left : CommentsIter → List Comment
comments_left it = iter_rest it.now ++ (joined it.leading ++ joined it.trailing)
