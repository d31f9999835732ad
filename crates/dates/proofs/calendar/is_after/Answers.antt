-- `dates::calendar::is_after` meets its contract: the fields' order is by year, month and day. Assumes nothing.
use Rattle.std.proofs.Common.{◌≡◌, ◌∙◌, refl, Bool, true, false, ltb, eqb}
use Rattle.std.specs.Ordering.{partial_lt}
use Rattle.dates.specs.declared.Date.{Date}
use Rattle.dates.specs.contracts.DatePartialOrd.TheImpl.{partial_cmp-value}
use Rattle.dates.specs.Calendar.{is_after}
use Rattle.dates.proofs.calendar.is_after.Goals as goal

by_fields : (p q : Date) → partial_lt partial_cmp-value.it p q ≡ is_after p q
unfolding is_after
by_fields p q = years (ltb p.year q.year) (eqb p.year q.year) refl refl
  where
    days : (b c : Bool) → ltb p.year q.year ≡ false → eqb p.year q.year ≡ true → ltb p.month q.month ≡ false → eqb p.month q.month ≡ true → ltb p.day q.day ≡ b → eqb p.day q.day ≡ c → partial_lt partial_cmp-value.it p q ≡ is_after p q
    days true c f g h i j k = simp (f, g, h, i, j, k)
    days false true f g h i j k = simp (f, g, h, i, j, k)
    days false false f g h i j k = simp (f, g, h, i, j, k)

    months : (b c : Bool) → ltb p.year q.year ≡ false → eqb p.year q.year ≡ true → ltb p.month q.month ≡ b → eqb p.month q.month ≡ c → partial_lt partial_cmp-value.it p q ≡ is_after p q
    months true c f g h i = simp (f, g, h, i)
    months false true f g h i = days (ltb p.day q.day) (eqb p.day q.day) f g h i refl refl
    months false false f g h i = simp (f, g, h, i)

    years : (b c : Bool) → ltb p.year q.year ≡ b → eqb p.year q.year ≡ c → partial_lt partial_cmp-value.it p q ≡ is_after p q
    years true c h i = simp (h, i)
    years false true h i = months (ltb p.month q.month) (eqb p.month q.month) h i refl refl
    years false false h i = simp (h, i)

pub returns : goal.returns
returns c = c.lt.ensures ∙ by_fields c.args.first c.args.second
