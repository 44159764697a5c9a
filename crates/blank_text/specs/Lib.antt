pub mod WithoutBlank
