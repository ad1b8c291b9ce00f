-- Good names, which stand lower: here so that what a module is can be read in one place.
pub use Rattle.anvil_lexer.specs.GoodName.{is_good_name, is_name_byte, begins_with_letter, has_double_underscore}
pub use Rattle.anvil_lexer.specs.GoodName.{ends_with_underscore}
