-- Literals that are equalities, and their sides.
use Rattle.std.specs.Prelude.{Bool, true, false}
use Rattle.logic.specs.Syntax.{Term, Atom, Literal, var, predicate, equal}

-- the atom is an equation
abbrev pub is_equation : Atom → Bool
is_equation (predicate q ts) = false
is_equation (equal s t) = true

-- the left side of an equation (of another atom, anything)
abbrev pub left_side : Atom → Term
left_side (predicate q ts) = var 0
left_side (equal s t) = s

-- the right side of an equation (of another atom, anything)
abbrev pub right_side : Atom → Term
right_side (predicate q ts) = var 0
right_side (equal s t) = t

-- the literal is an equality, negated or not
abbrev pub equality : Literal → Bool
equality l = is_equation l.atom

-- the left side of an equality
abbrev pub left : Literal → Term
left l = left_side l.atom

-- the right side of an equality
abbrev pub right : Literal → Term
right l = right_side l.atom
