-- One row more on a pile.
use Rattle.piles.specs.Pushing.{rows_counted, rows_pushed, image_push, counting_push, stands_push, unmixed_push, top_push, topmost_push}

-- what a pile keeps of its rows, with one more on top
pub ruleset one_more = (rows_pushed, rows_counted, image_push, counting_push, stands_push, unmixed_push, top_push, topmost_push)
