-- Corner cases of the grammar, by computation. Assumes nothing.
use mathlib.Core.Path.{◌≡◌, refl}
use Rattle.text.specs.Bytes.{bytes, same_bytes, between, is_space, is_letter, is_digit}
use Rattle.scanner.specs.Parts.{is_empty, every, one_or_more, behind, is_one_of, is_among}
use Rattle.scanner.specs.Constants.{is_hex_digit, unsigned, is_decimal, is_integer, is_word, digits_then, is_exponent, is_fraction, is_real}
use Rattle.scanner.specs.Strings.{is_digit_of, value_of_digit, number_ends, digit, escaped, next, is_closed, characters, is_string, is_character}
use Rattle.scanner.specs.Lexical.{reserved_core, reserved_modules, is_reserved, is_alphanumeric_byte, is_alphanumeric, is_symbol, is_symbolic, closes, is_comment, is_white_space, is_dot, is_token, opens_comment, token_of, longest_up_to, longest, keywords, numbered, kind_of}

-- `0x` is `0` and `x`.
zero_x_alone : longest (bytes "0x") ≡ 1
unfolding longest longest_up_to token_of opens_comment is_token is_reserved reserved_core reserved_modules is_among bytes same_bytes is_empty every one_or_more behind is_one_of is_hex_digit unsigned is_decimal is_integer is_word digits_then is_exponent is_fraction is_real is_digit_of value_of_digit number_ends digit escaped next is_closed characters is_string is_character is_alphanumeric_byte is_alphanumeric is_symbol is_symbolic closes is_comment is_white_space is_dot is_space is_letter is_digit between
zero_x_alone = refl

-- `0x1.5` is `0x1`, a dot and `5`.
hexadecimal_no_fraction : longest (bytes "0x1.5") ≡ 3
unfolding longest longest_up_to token_of opens_comment is_token is_reserved reserved_core reserved_modules is_among bytes same_bytes is_empty every one_or_more behind is_one_of is_hex_digit unsigned is_decimal is_integer is_word digits_then is_exponent is_fraction is_real is_digit_of value_of_digit number_ends digit escaped next is_closed characters is_string is_character is_alphanumeric_byte is_alphanumeric is_symbol is_symbolic closes is_comment is_white_space is_dot is_space is_letter is_digit between
hexadecimal_no_fraction = refl

-- `~0x1F` is one token.
negative_hexadecimal : longest (bytes "~0x1F") ≡ 5
unfolding longest longest_up_to token_of opens_comment is_token is_reserved reserved_core reserved_modules is_among bytes same_bytes is_empty every one_or_more behind is_one_of is_hex_digit unsigned is_decimal is_integer is_word digits_then is_exponent is_fraction is_real is_digit_of value_of_digit number_ends digit escaped next is_closed characters is_string is_character is_alphanumeric_byte is_alphanumeric is_symbol is_symbolic closes is_comment is_white_space is_dot is_space is_letter is_digit between
negative_hexadecimal = refl

-- `~0w1` is `~0` and `w1`.
negative_no_word : longest (bytes "~0w1") ≡ 2
unfolding longest longest_up_to token_of opens_comment is_token is_reserved reserved_core reserved_modules is_among bytes same_bytes is_empty every one_or_more behind is_one_of is_hex_digit unsigned is_decimal is_integer is_word digits_then is_exponent is_fraction is_real is_digit_of value_of_digit number_ends digit escaped next is_closed characters is_string is_character is_alphanumeric_byte is_alphanumeric is_symbol is_symbolic closes is_comment is_white_space is_dot is_space is_letter is_digit between
negative_no_word = refl

-- `0w1e5` is `0w1` and `e5`.
word_no_exponent : longest (bytes "0w1e5") ≡ 3
unfolding longest longest_up_to token_of opens_comment is_token is_reserved reserved_core reserved_modules is_among bytes same_bytes is_empty every one_or_more behind is_one_of is_hex_digit unsigned is_decimal is_integer is_word digits_then is_exponent is_fraction is_real is_digit_of value_of_digit number_ends digit escaped next is_closed characters is_string is_character is_alphanumeric_byte is_alphanumeric is_symbol is_symbolic closes is_comment is_white_space is_dot is_space is_letter is_digit between
word_no_exponent = refl

-- `1e~` is `1`, `e` and `~`.
exponent_without-digits : longest (bytes "1e~") ≡ 1
unfolding longest longest_up_to token_of opens_comment is_token is_reserved reserved_core reserved_modules is_among bytes same_bytes is_empty every one_or_more behind is_one_of is_hex_digit unsigned is_decimal is_integer is_word digits_then is_exponent is_fraction is_real is_digit_of value_of_digit number_ends digit escaped next is_closed characters is_string is_character is_alphanumeric_byte is_alphanumeric is_symbol is_symbolic closes is_comment is_white_space is_dot is_space is_letter is_digit between
exponent_without-digits = refl

-- `1.5e~3` is one token.
real : longest (bytes "1.5e~3") ≡ 6
unfolding longest longest_up_to token_of opens_comment is_token is_reserved reserved_core reserved_modules is_among bytes same_bytes is_empty every one_or_more behind is_one_of is_hex_digit unsigned is_decimal is_integer is_word digits_then is_exponent is_fraction is_real is_digit_of value_of_digit number_ends digit escaped next is_closed characters is_string is_character is_alphanumeric_byte is_alphanumeric is_symbol is_symbolic closes is_comment is_white_space is_dot is_space is_letter is_digit between
real = refl

-- `1.e5` is `1`, a dot and `e5`.
point_without-digits : longest (bytes "1.e5") ≡ 1
unfolding longest longest_up_to token_of opens_comment is_token is_reserved reserved_core reserved_modules is_among bytes same_bytes is_empty every one_or_more behind is_one_of is_hex_digit unsigned is_decimal is_integer is_word digits_then is_exponent is_fraction is_real is_digit_of value_of_digit number_ends digit escaped next is_closed characters is_string is_character is_alphanumeric_byte is_alphanumeric is_symbol is_symbolic closes is_comment is_white_space is_dot is_space is_letter is_digit between
point_without-digits = refl

-- `~~5` is `~~` and `5`.
two_tildes : longest (bytes "~~5") ≡ 2
unfolding longest longest_up_to token_of opens_comment is_token is_reserved reserved_core reserved_modules is_among bytes same_bytes is_empty every one_or_more behind is_one_of is_hex_digit unsigned is_decimal is_integer is_word digits_then is_exponent is_fraction is_real is_digit_of value_of_digit number_ends digit escaped next is_closed characters is_string is_character is_alphanumeric_byte is_alphanumeric is_symbol is_symbolic closes is_comment is_white_space is_dot is_space is_letter is_digit between
two_tildes = refl

-- `#"c"` is one token.
character : longest (bytes "#\"c\"") ≡ 4
unfolding longest longest_up_to token_of opens_comment is_token is_reserved reserved_core reserved_modules is_among bytes same_bytes is_empty every one_or_more behind is_one_of is_hex_digit unsigned is_decimal is_integer is_word digits_then is_exponent is_fraction is_real is_digit_of value_of_digit number_ends digit escaped next is_closed characters is_string is_character is_alphanumeric_byte is_alphanumeric is_symbol is_symbolic closes is_comment is_white_space is_dot is_space is_letter is_digit between
character = refl

-- `#"ab"` is `#` and a string constant.
two-characters : longest (bytes "#\"ab\"") ≡ 1
unfolding longest longest_up_to token_of opens_comment is_token is_reserved reserved_core reserved_modules is_among bytes same_bytes is_empty every one_or_more behind is_one_of is_hex_digit unsigned is_decimal is_integer is_word digits_then is_exponent is_fraction is_real is_digit_of value_of_digit number_ends digit escaped next is_closed characters is_string is_character is_alphanumeric_byte is_alphanumeric is_symbol is_symbolic closes is_comment is_white_space is_dot is_space is_letter is_digit between
two-characters = refl

-- `#"\ \a"` is one token: a gap denotes nothing.
gap_and_character : longest (bytes "#\"\\ \\a\"") ≡ 7
unfolding longest longest_up_to token_of opens_comment is_token is_reserved reserved_core reserved_modules is_among bytes same_bytes is_empty every one_or_more behind is_one_of is_hex_digit unsigned is_decimal is_integer is_word digits_then is_exponent is_fraction is_real is_digit_of value_of_digit number_ends digit escaped next is_closed characters is_string is_character is_alphanumeric_byte is_alphanumeric is_symbol is_symbolic closes is_comment is_white_space is_dot is_space is_letter is_digit between
gap_and_character = refl

-- `....` is `...` and a dot.
dots_four : longest (bytes "....") ≡ 3
unfolding longest longest_up_to token_of opens_comment is_token is_reserved reserved_core reserved_modules is_among bytes same_bytes is_empty every one_or_more behind is_one_of is_hex_digit unsigned is_decimal is_integer is_word digits_then is_exponent is_fraction is_real is_digit_of value_of_digit number_ends digit escaped next is_closed characters is_string is_character is_alphanumeric_byte is_alphanumeric is_symbol is_symbolic closes is_comment is_white_space is_dot is_space is_letter is_digit between
dots_four = refl

-- `..` is two dots.
dots_two : longest (bytes "..") ≡ 1
unfolding longest longest_up_to token_of opens_comment is_token is_reserved reserved_core reserved_modules is_among bytes same_bytes is_empty every one_or_more behind is_one_of is_hex_digit unsigned is_decimal is_integer is_word digits_then is_exponent is_fraction is_real is_digit_of value_of_digit number_ends digit escaped next is_closed characters is_string is_character is_alphanumeric_byte is_alphanumeric is_symbol is_symbolic closes is_comment is_white_space is_dot is_space is_letter is_digit between
dots_two = refl

-- A lone prime is a type variable.
prime : longest (bytes "'") ≡ 1
unfolding longest longest_up_to token_of opens_comment is_token is_reserved reserved_core reserved_modules is_among bytes same_bytes is_empty every one_or_more behind is_one_of is_hex_digit unsigned is_decimal is_integer is_word digits_then is_exponent is_fraction is_real is_digit_of value_of_digit number_ends digit escaped next is_closed characters is_string is_character is_alphanumeric_byte is_alphanumeric is_symbol is_symbolic closes is_comment is_white_space is_dot is_space is_letter is_digit between
prime = refl

-- `(*)` has no end.
comment_without_end : longest (bytes "(*)") ≡ 0
unfolding longest longest_up_to token_of opens_comment is_token is_reserved reserved_core reserved_modules is_among bytes same_bytes is_empty every one_or_more behind is_one_of is_hex_digit unsigned is_decimal is_integer is_word digits_then is_exponent is_fraction is_real is_digit_of value_of_digit number_ends digit escaped next is_closed characters is_string is_character is_alphanumeric_byte is_alphanumeric is_symbol is_symbolic closes is_comment is_white_space is_dot is_space is_letter is_digit between
comment_without_end = refl

-- `(*)*)` is a comment.
comment_star_bracket : longest (bytes "(*)*)") ≡ 5
unfolding longest longest_up_to token_of opens_comment is_token is_reserved reserved_core reserved_modules is_among bytes same_bytes is_empty every one_or_more behind is_one_of is_hex_digit unsigned is_decimal is_integer is_word digits_then is_exponent is_fraction is_real is_digit_of value_of_digit number_ends digit escaped next is_closed characters is_string is_character is_alphanumeric_byte is_alphanumeric is_symbol is_symbolic closes is_comment is_white_space is_dot is_space is_letter is_digit between
comment_star_bracket = refl

-- `(*(*)*)` has no end.
comment_nested_open : longest (bytes "(*(*)*)") ≡ 0
unfolding longest longest_up_to token_of opens_comment is_token is_reserved reserved_core reserved_modules is_among bytes same_bytes is_empty every one_or_more behind is_one_of is_hex_digit unsigned is_decimal is_integer is_word digits_then is_exponent is_fraction is_real is_digit_of value_of_digit number_ends digit escaped next is_closed characters is_string is_character is_alphanumeric_byte is_alphanumeric is_symbol is_symbolic closes is_comment is_white_space is_dot is_space is_letter is_digit between
comment_nested_open = refl

-- `((*x*)` starts with a bracket.
bracket_before_comment : longest (bytes "((*x*)") ≡ 1
unfolding longest longest_up_to token_of opens_comment is_token is_reserved reserved_core reserved_modules is_among bytes same_bytes is_empty every one_or_more behind is_one_of is_hex_digit unsigned is_decimal is_integer is_word digits_then is_exponent is_fraction is_real is_digit_of value_of_digit number_ends digit escaped next is_closed characters is_string is_character is_alphanumeric_byte is_alphanumeric is_symbol is_symbolic closes is_comment is_white_space is_dot is_space is_letter is_digit between
bracket_before_comment = refl

-- `"\^\"` is a string constant.
control_backslash : longest (bytes "\"\\^\\\"") ≡ 5
unfolding longest longest_up_to token_of opens_comment is_token is_reserved reserved_core reserved_modules is_among bytes same_bytes is_empty every one_or_more behind is_one_of is_hex_digit unsigned is_decimal is_integer is_word digits_then is_exponent is_fraction is_real is_digit_of value_of_digit number_ends digit escaped next is_closed characters is_string is_character is_alphanumeric_byte is_alphanumeric is_symbol is_symbolic closes is_comment is_white_space is_dot is_space is_letter is_digit between
control_backslash = refl

-- `"\256"` begins no token.
number_over_255 : longest (bytes "\"\\256\"") ≡ 0
unfolding longest longest_up_to token_of opens_comment is_token is_reserved reserved_core reserved_modules is_among bytes same_bytes is_empty every one_or_more behind is_one_of is_hex_digit unsigned is_decimal is_integer is_word digits_then is_exponent is_fraction is_real is_digit_of value_of_digit number_ends digit escaped next is_closed characters is_string is_character is_alphanumeric_byte is_alphanumeric is_symbol is_symbolic closes is_comment is_white_space is_dot is_space is_letter is_digit between
number_over_255 = refl

-- `"\255"` is a string constant.
number_255 : longest (bytes "\"\\255\"") ≡ 6
unfolding longest longest_up_to token_of opens_comment is_token is_reserved reserved_core reserved_modules is_among bytes same_bytes is_empty every one_or_more behind is_one_of is_hex_digit unsigned is_decimal is_integer is_word digits_then is_exponent is_fraction is_real is_digit_of value_of_digit number_ends digit escaped next is_closed characters is_string is_character is_alphanumeric_byte is_alphanumeric is_symbol is_symbolic closes is_comment is_white_space is_dot is_space is_letter is_digit between
number_255 = refl

-- `"\u00FF"` is a string constant.
unicode_ff : longest (bytes "\"\\u00FF\"") ≡ 8
unfolding longest longest_up_to token_of opens_comment is_token is_reserved reserved_core reserved_modules is_among bytes same_bytes is_empty every one_or_more behind is_one_of is_hex_digit unsigned is_decimal is_integer is_word digits_then is_exponent is_fraction is_real is_digit_of value_of_digit number_ends digit escaped next is_closed characters is_string is_character is_alphanumeric_byte is_alphanumeric is_symbol is_symbolic closes is_comment is_white_space is_dot is_space is_letter is_digit between
unicode_ff = refl

kind_dots : kind_of (bytes "...") ≡ 2
unfolding kind_of opens_comment behind bytes keywords numbered same_bytes
kind_dots = refl

kind_include : kind_of (bytes "include") ≡ 20
unfolding kind_of opens_comment behind bytes keywords numbered same_bytes
kind_include = refl

kind_comment : kind_of (bytes "(* c *)") ≡ 1
unfolding kind_of opens_comment behind bytes keywords numbered same_bytes
kind_comment = refl

-- A prime makes another word.
kind_prime : kind_of (bytes "val'") ≡ 0
unfolding kind_of opens_comment behind bytes keywords numbered same_bytes
kind_prime = refl
