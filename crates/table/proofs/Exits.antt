-- What a `?` returns when a table is refused. Assumes nothing.
use Rattle.std.proofs.Common.{◌≡◌, ℕ, ◌≤◌, IsErrAnd, IfErr, Ok, Err, Result, sym, subst, arith}
use Rattle.table.specs.declared.refusal.PackRefusal.{PackRefusal}
use Rattle.table.specs.declared.refusal.PackRefusal.TheVariants.{TooLarge, Memory}
use Rattle.table.specs.Refusals.{Refuses}

-- what a refusal says of fewer rows it says of more
refuses_more : (e : PackRefusal) (a b : ℕ) → a ≤ b → Refuses e a → Refuses e b
refuses_more TooLarge a b h r = omega arith
refuses_more Memory a b h r = tt

-- a refusal is handed on
pub handed_on : {T : Type 0} (r : Result T PackRefusal) (e : PackRefusal) (a b : ℕ) → IsErrAnd r (λ y. y ≡ e) → a ≤ b → Refuses e a → IfErr r (λ y. Refuses y b)
handed_on (Ok x) e a b h l q = absurd h
handed_on (Err y) e a b h l q = refuses_more y a b l (subst (λ (z : PackRefusal). Refuses z a) (sym h) q)
