-- The path is that of the state's numbers (`accept_path`), and what is left is what an accepted state leaves (`accept_post`).
use Rattle.rollup.proofs.AddLaws.{accept_kept, accept_path, accept_post}
use Rattle.rollup.proofs.adding.Fitted.accept.Goals as goal

pub kept-requires : goal.kept-requires
kept-requires c = accept_kept c.requires

pub path_of-path-requires : goal.path_of-path-requires
path_of-path-requires c = accept_path c.requires c.state_numbers-x.ensures c.kept.ensures

pub returns-clause-post : goal.returns-clause-post
returns-clause-post c =
    accept_post c.requires c.state_numbers-x.ensures c.kept.ensures c.path_of-path.ensures c.data.ensures c.distinct_after.ensures c.take.ensures.shows
