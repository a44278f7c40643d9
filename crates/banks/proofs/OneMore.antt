-- One pile more in a bank.
use Rattle.std.proofs.Common.{◌≡◌, ℕ, true, List, [], ◌∷◌, ◌++◌, is_ok, refl}
use Rattle.std.proofs.lemmas.List.{length-map, map_push}
use Rattle.std.proofs.lemmas.Bool.{and_parts, and_from}
use Rattle.piles.specs.Laying.{pile_of}
use Rattle.piles.specs.declared.rows.Row.{Row}
use Rattle.banks.specs.Banks.{all_made}

pub all_made_push : (c : ℕ) (piles : List (List Row)) (rows : List Row) → all_made c piles ≡ true → is_ok (pile_of c rows) ≡ true → all_made c (piles ++ rows ∷ []) ≡ true
all_made_push c [] rows h e = and_from (is_ok (pile_of c rows)) true e refl
all_made_push c (first ∷ piles) rows h e =
    let p = and_parts (is_ok (pile_of c first)) (all_made c piles) h in
    and_from (is_ok (pile_of c first)) (all_made c (piles ++ rows ∷ [])) p.0 (all_made_push c piles rows p.1 e)

-- what a bank keeps of its piles, with one more behind them
pub ruleset one_more = (map_push, all_made_push)
