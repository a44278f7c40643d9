-- No plan has fewer bars than a bank's number says.
use Rattle.std.specs.Prelude.{◌≡◌, ℕ, ◌≤◌, true, List, [], ◌∷◌, is_ok}
use Rattle.std.proofs.Common.{arith}
use Rattle.std.proofs.lemmas.Bool.{and_parts}
use Rattle.plans.specs.Plans.{AtLeast}
use Rattle.piles.specs.Layered.{layered, layered_image}
use Rattle.piles.specs.Laying.{pile_of}
use Rattle.piles.specs.declared.rows.Row.{Row}
use Rattle.piles.specs.LaidLaw.{laid_lawful}
use Rattle.piles.specs.Relaying.{pile_whole}
use Rattle.bounds.specs.Sound.{bound_sound}
use Rattle.banks.specs.Banks.{pile_bound, bank_number, all_made}

-- nor than one pile's bound says
pub pile_sound : (c : ℕ) (rows : List Row) (list : List ℕ) → is_ok (pile_of c rows) ≡ true → AtLeast c list (pile_bound c list rows)
pile_sound c rows list e = let m = laid_lawful c rows (pile_whole c rows e) in bound_sound c (layered_image c rows) (layered c rows) m.2.0 m.0 list

pub bank_sound : (c : ℕ) (piles : List (List Row)) (list : List ℕ) → all_made c piles ≡ true → AtLeast c list (bank_number c piles list)
bank_sound c [] list e n plan packs = omega arith
bank_sound c (rows ∷ piles) list e n plan packs =
    let p = and_parts (is_ok (pile_of c rows)) (all_made c piles) e in
    let first : pile_bound c list rows ≤ n = pile_sound c rows list p.0 n plan packs in
    let others : bank_number c piles list ≤ n = bank_sound c piles list p.1 n plan packs in
    omega arith
