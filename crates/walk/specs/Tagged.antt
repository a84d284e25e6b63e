-- A scenario as whoever writes one has it, and its bytes: for each field its tag, the length of its value in two bytes (high byte
-- first), and its value. Assumes nothing.
use Rattle.std.specs.Prelude.{List, [], ◌∷◌, ◌++◌, ℕ, ◌+◌, ◌/◌, ◌%◌, length, Some}
use Rattle.walk.specs.declared.field.Field.{Field}
use Rattle.walk.specs.declared.field.Field.TheVariants.{Master, Slave, Reply, Queue, Run, Heard, Quiet}
use Rattle.walk.specs.declared.field.Placed.{Placed}

pub data Item : Type 0 where
  master : ℕ → Item
  slave : ℕ → Item
  reply : ℕ → ℕ → ℕ → List ℕ → Item
  queue : ℕ → ℕ → ℕ → ℕ → List ℕ → Item
  run : ℕ → Item
  heard : ℕ → Item
  quiet : Item

abbrev pub tag_of : Item → ℕ
tag_of (master a) = 0x01
tag_of (slave a) = 0x02
tag_of (reply a p q ds) = 0x03
tag_of (queue q z p r ds) = 0x04
tag_of (run n) = 0x05
tag_of (heard x) = 0x06
tag_of quiet = 0x07

abbrev pub value_bytes : Item → List ℕ
value_bytes (master a) = a ∷ []
value_bytes (slave a) = a ∷ []
value_bytes (reply a p q ds) = a ∷ p ∷ q ∷ ds
value_bytes (queue q z p r ds) = q ∷ z ∷ p ∷ r ∷ ds
value_bytes (run n) = n / 256 ∷ n % 256 ∷ []
value_bytes (heard x) = x ∷ []
value_bytes quiet = []

abbrev pub tagged : ℕ → List ℕ → List ℕ
tagged tag v = tag ∷ length v / 256 ∷ length v % 256 ∷ v

abbrev pub item_bytes : Item → List ℕ
item_bytes i = tagged (tag_of i) (value_bytes i)

-- fields one after the other
unfoldable pub scenario_of : List Item → List ℕ
scenario_of [] = []
scenario_of (i ∷ is) = item_bytes i ++ scenario_of is

-- the field that stands at a place; the data of a reply and of a telegram lie behind the bytes that name them
abbrev pub field_of : Item → ℕ → Field
field_of (master a) at = Master a
field_of (slave a) at = Slave a
field_of (reply a p q ds) at = Reply a p q (at + 3 + 3)
field_of (queue q z p r ds) at = Queue q z p r (at + 3 + 4)
field_of (run n) at = Run n
field_of (heard x) at = Heard x
field_of quiet at = Quiet

abbrev pub placed_at : Item → ℕ → Placed
placed_at i at = record { field = Some (field_of i at); next = at + 3 + length (value_bytes i) }
