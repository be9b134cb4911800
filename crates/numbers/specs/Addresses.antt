-- Word addresses, guest and physical alike: the page is the quotient by the words of a page, the offset the remainder.
use Rattle.std.specs.Prelude.{ℕ, ◌+◌, ◌*◌, ◌/◌, ◌%◌}
use Rattle.numbers.specs.Sizes.{page_words}

unfoldable pub page_of : ℕ → ℕ
page_of word = word / page_words

unfoldable pub offset_of : ℕ → ℕ
offset_of word = word % page_words

unfoldable pub word_of : ℕ → ℕ → ℕ
word_of page offset = page * page_words + offset
