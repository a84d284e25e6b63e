-- What a symbol on the wire can be (01, "How each place should look"). Assumes nothing.
use Rattle.std.specs.Prelude.{ℕ, Bool, true, false, cond, ◌==◌, nat_le}
use Rattle.wire.specs.declared.symbol.Kind.{Kind}
use Rattle.wire.specs.declared.symbol.Kind.TheVariants.{Syn, Escape, Count, Plain}

-- AA is SYN, A9 the escape, 0 to 16 a count, any other plain
unfoldable pub kind_of : ℕ → Kind
kind_of s = cond (s == 0xAA) Syn (cond (s == 0xA9) Escape (cond (nat_le s 16) Count Plain))

abbrev pub is_escape : Kind → Bool
is_escape Syn = false
is_escape Escape = true
is_escape Count = false
is_escape Plain = false

abbrev pub is_count : Kind → Bool
is_count Syn = false
is_count Escape = false
is_count Count = true
is_count Plain = false
