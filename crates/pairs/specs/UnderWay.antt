-- What the lines tell of the transfer under way (02, E9). Assumes nothing.
use Rattle.std.specs.Prelude.{Bool, true, false, cond, ℕ, eqb, Option, Some, None}
use Rattle.address.specs.Role.{role_of}
use Rattle.address.specs.declared.Role.{Role}
use Rattle.address.specs.declared.Role.TheVariants.{Master, Slave, Broadcast, Never}
use Rattle.pairs.specs.declared.UnderWay.{UnderWay}

-- the owner, as far as the lines have told
abbrev pub under_way : Option ℕ → Bool → Bool → UnderWay
under_way o told answered = record { owner = o; told = told; answered = answered }

abbrev pub nothing_known : UnderWay
nothing_known = under_way None false false

-- ZZ is a slave address: the master part is followed by an answer
abbrev pub is_slave_role : Role → Bool
is_slave_role Master = false
is_slave_role Slave = true
is_slave_role Broadcast = false
is_slave_role Never = false

unfoldable pub wants_answer : ℕ → Bool
wants_answer zz = is_slave_role (role_of zz)

-- this station is the owner
abbrev pub is_owner : Option ℕ → ℕ → Bool
is_owner None a = false
is_owner (Some o) a = eqb o a

-- it can be: listening may begin within a transfer, and then its owner is told taken before whoever answers it
abbrev pub may_be_owner : Option ℕ → ℕ → Bool
may_be_owner None a = true
may_be_owner (Some o) a = eqb o a

-- an owns line: a transfer begins
abbrev pub begun : ℕ → UnderWay
begun a = under_way (Some a) false false

-- a taken line: who answers an owner is told so of its answer
unfoldable pub taken_by : UnderWay → ℕ → UnderWay
taken_by u a = cond (may_be_owner u.owner a) (under_way (Some a) true u.answered) u

-- an answer line
abbrev pub answered_in : UnderWay → UnderWay
answered_in u = under_way u.owner u.told true

-- taken only if its owner was told taken and, ZZ being a slave address, handed out an answer
unfoldable pub is_taken : UnderWay → ℕ → ℕ → Bool
is_taken u a zz = cond (is_owner u.owner a) (cond u.told (cond (wants_answer zz) u.answered true) false) false
