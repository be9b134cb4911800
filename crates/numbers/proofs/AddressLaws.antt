-- Word addresses: a page and an offset come back from their word, and a word from its page and offset.
use mathlib.Core.Path.{◌≡◌}
use Prim.Native.Nat.{ℕ, ◌*◌, ◌<◌}
use native.Mathlib.Nat.{div-add-mod'}
use native.Mathlib.Omega.{arith}
use Rattle.numbers.specs.Sizes.{page_words}
use Rattle.numbers.specs.Addresses.{page_of, offset_of, word_of}

-- the source's round trip
pub lemma_page_word_roundtrip : (p o : ℕ) → o < page_words → page_of (word_of p o) ≡ p
unfolding page_of word_of page_words
lemma_page_word_roundtrip p o h = omega arith

pub offset_word : (p o : ℕ) → o < page_words → offset_of (word_of p o) ≡ o
unfolding offset_of word_of page_words
offset_word p o h = omega arith

pub word-page-offset : (a : ℕ) → word_of (page_of a) (offset_of a) ≡ a
unfolding word_of page_of offset_of
word-page-offset a = div-add-mod' a page_words

pub offset-below : (a : ℕ) → offset_of a < page_words
unfolding offset_of page_words
offset-below a = omega arith

-- a word of one of n pages is one of their words
pub word_below : (n p o : ℕ) → p < n → o < page_words → word_of p o < n * page_words
unfolding word_of page_words
word_below n p o h k = omega arith
