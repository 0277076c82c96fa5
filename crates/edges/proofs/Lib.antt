mod Basket
