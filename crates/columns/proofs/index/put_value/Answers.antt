use borrow.Author.Rules.{rules}
use Rattle.columns.proofs.Indexing.{put-past, put-placed}
use Rattle.columns.proofs.index.put_value.Goals as goal

pub returns-then-m-p : goal.returns-then-m-p
returns-then-m-p c = put-past _ _ _ _ _ _ c.put.ensures

pub returns : goal.returns
returns c = put-placed _ _ _ _ _ _ (search rules) (search rules) c.put.ensures
